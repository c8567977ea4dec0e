-- What a kind of header means.
--     Meaning     five facts: the width, a header's bits, matching, admission, and the rule that a row holds
--     Lawful      what each kind owes: a rule that matches a header admits the header's own values at every set of bits
--     IsMatched   some header that a rule matches has all of some values
-- Assumes nothing.
use Rattle.std.specs.Prelude.{◌≡◌, ℕ, ◌≤◌, Bool, true, false, not, List, [], ◌∷◌, Option}
use Rattle.bits.specs.Chosen.{IsBits}
use Rattle.kinds.specs.Values.{with_values, has}

pub record Meaning (Header Rule Row : Type 0) : Type 0 where
  pub width : ℕ
  -- the value of bit b of a header
  pub bit : Header → ℕ → Bool
  pub matches : Rule → Header → Bool
  -- whether a rule admits some values together, each at its bit
  pub admits : Rule → List (ℕ × Bool) → Bool
  -- the rule that a row of plain numbers holds, if any
  pub holds : Row → Option Rule

pub record Lawful {Header Rule Row : Type 0} (k : Meaning Header Rule Row) : Type 0 where
  pub some_bits : 1 ≤ k.width
  pub few_bits : k.width ≤ 1024
  -- a rule that matches a header admits the header's own values at the bits of any set
  pub agrees : (r : Rule) (h : Header) → k.matches r h ≡ true → (bits : List ℕ) → IsBits bits → k.admits r (with_values (k.bit h) bits) ≡ true
  -- where nothing is asked, every rule says yes
  pub yes_to_none : (r : Rule) → k.admits r [] ≡ true
  -- at the width and above a header's bit is 0, and a rule admits 0 alone
  pub zero_beyond : (h : Header) (b : ℕ) → k.width ≤ b → k.bit h b ≡ false
  pub only_zero_beyond : (r : Rule) (b : ℕ) (v : Bool) → k.width ≤ b → k.admits r ((b, v) ∷ []) ≡ not v

-- among the headers that there are (an address is a number of 32 bits, and so on)
abbrev pub IsMatched : {Header Rule Row : Type 0} → Meaning Header Rule Row → (Header → Type 0) → Rule → List (ℕ × Bool) → Type 0
IsMatched {Header = Header} k IsHeader r asked = (h : Header) × IsHeader h × (k.matches r h ≡ true) × (has (k.bit h) asked ≡ true)
