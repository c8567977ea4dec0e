-- A kind whose header is a row of fields, side by side from bit 0 on.
--     Field         its width, its number in a header, and what a rule says of it
--     within        of some values, those at a field's bits
--     beyond        the others, with their bits counted from the field's end
--     kind_of       the meaning of the whole row: a rule matches in every field, and admits values if each field admits its own
--     LawfulField   the law of a kind, for one field
--     alone_in      of parts that admit bit by bit: what the row admits at a bit
-- Assumes nothing.
use Rattle.std.specs.Prelude.{◌≡◌, ℕ, ◌+◌, ◌-◌, Bool, true, false, if◌then◌else◌, not, ◌&&◌, List, [], ◌∷◌, Option, nat_lt}
use Rattle.kinds.specs.Meaning.{Meaning}
use Rattle.kinds.specs.Bits.{bit_of}
use Rattle.kinds.specs.Values.{with_values, each}

pub record Field (Header Rule : Type 0) : Type 0 where
  pub width : ℕ
  pub number : Header → ℕ
  -- whether a rule takes a number
  pub takes : Rule → ℕ → Bool
  -- whether a rule admits some values together, each at a bit of the field
  pub admits : Rule → List (ℕ × Bool) → Bool

abbrev pub within : ℕ → List (ℕ × Bool) → List (ℕ × Bool)
within width [] = []
within width (a ∷ asked) = if nat_lt a.0 width then a ∷ within width asked else within width asked

abbrev pub beyond : ℕ → List (ℕ × Bool) → List (ℕ × Bool)
beyond width [] = []
beyond width (a ∷ asked) = if nat_lt a.0 width then beyond width asked else (a.0 - width, a.1) ∷ beyond width asked

module _ {Header Rule : Type 0} where
  abbrev pub width_of : List (Field Header Rule) → ℕ
  width_of [] = 0
  width_of (f ∷ fs) = f.width + width_of fs

  abbrev pub bit_in : List (Field Header Rule) → Header → ℕ → Bool
  bit_in [] h b = false
  bit_in (f ∷ fs) h b = if nat_lt b f.width then bit_of f.width (f.number h) b else bit_in fs h (b - f.width)

  abbrev pub matches_in : List (Field Header Rule) → Rule → Header → Bool
  matches_in [] r h = true
  matches_in (f ∷ fs) r h = f.takes r (f.number h) && matches_in fs r h

  -- past the last field 0 alone
  abbrev pub admits_in : List (Field Header Rule) → Rule → List (ℕ × Bool) → Bool
  admits_in [] r asked = each (λ b v. not v) asked
  admits_in (f ∷ fs) r asked = f.admits r (within f.width asked) && admits_in fs r (beyond f.width asked)

  abbrev pub kind_of : {Row : Type 0} → List (Field Header Rule) → (Row → Option Rule) → Meaning Header Rule Row
  kind_of fs holds = record { width = width_of fs; bit = bit_in fs; matches = matches_in fs; admits = admits_in fs; holds = holds }

  pub record LawfulField (f : Field Header Rule) : Type 0 where
    pub agrees : (r : Rule) (n : ℕ) → f.takes r n ≡ true → (bits : List ℕ) → f.admits r (with_values (bit_of f.width n) bits) ≡ true
    pub yes_to_none : (r : Rule) → f.admits r [] ≡ true

-- parts side by side, each with its width and what it admits at each of its bits alone: the same for a bit of the row
abbrev pub alone_in : List (ℕ × (ℕ → Bool → Bool)) → ℕ → Bool → Bool
alone_in [] b v = not v
alone_in (part ∷ parts) b v = if nat_lt b part.0 then part.1 b v else alone_in parts (b - part.0) v

-- a field of which a rule keeps one part: whether the part takes a number, and what it admits
abbrev pub field : {Header Rule Part : Type 0} (width : ℕ) → (Header → ℕ) → (Rule → Part) → (Part → ℕ → Bool) → (Part → List (ℕ × Bool) → Bool) → Field Header Rule
field width number part takes admits = record { width = width; number = number; takes = λ r n. takes (part r) n; admits = λ r asked. admits (part r) asked }
