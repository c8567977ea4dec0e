-- Values that a rule admits are those of some header that it matches: field by field, and for a number of which some bits are given.
use Rattle.std.proofs.Common.{◌≡◌, ℕ, suc, zero, ◌+◌, ◌-◌, ◌^◌, ◌<◌, ◌≤◌, bit_and, Bool, true, false, cond, not, ◌&&◌, ltb, eqb, List, [], ◌∷◌, length, get_or, refl, sym, ap, ap₂, ◌∙◌, subst, inl, inr, arith}
use mir.Val.{bool_byte}
use Rattle.std.specs.Bool.{beq}
use Rattle.std.specs.Cmp.{booleans_Decides}
use Rattle.std.specs.List.{AllByRecursion, range_with_len}
use Rattle.std.specs.Int.{bit_at}
use Rattle.std.proofs.lemmas.Nat.{and_le_l}
use Rattle.std.proofs.lemmas.Nat.Bits.{same_from_bits_below}
use Rattle.std.proofs.lemmas.List.FromFn.{length-range_with_len, get_or-map-range_with_len}
use Rattle.std.proofs.lemmas.Bool.{cases_Bool, and_parts, and_from, cond_both, ltb-true, ltb-false, eq-eqb}
use Rattle.std.proofs.lemmas.Bool.Decides.{nat_tests}
use Rattle.bits.specs.Chosen.{IsBits}
use Rattle.kinds.specs.Meaning.{Meaning, Lawful, IsMatched}
use Rattle.kinds.specs.Bits.{digit, bit_of, mask_matches, mask_admits}
use Rattle.kinds.specs.Values.{with_values, valued, each, has, Rises, AllBelow, number_of}
use Rattle.kinds.specs.Fields.{Field, bit_in, matches_in, admits_in, within, beyond}
use Rattle.kinds.proofs.Numbers.{is_byte, number_below, valued_own}
use Rattle.kinds.proofs.Under.{digit_and}

-- rising values, split at a field's end
pub weaker : (low from : ℕ) (asked : List (ℕ × Bool)) → low ≤ from → Rises from asked → Rises low asked
weaker low from [] le rises = tt
weaker low from (a ∷ asked) le rises = (omega (arith, rises.0), rises.1)

module _ (width : ℕ) where
  pub rises_within : (from : ℕ) (asked : List (ℕ × Bool)) → Rises from asked → Rises from (within width asked)
  rises_within from [] rises = tt
  rises_within from (a ∷ asked) rises =
      let rest = rises_within (a.0 + 1) asked rises.1 in
      cond_both (ltb a.0 width) (a ∷ within width asked) (within width asked) (Rises from) (λ _. (rises.0, rest)) (λ _. weaker from (a.0 + 1) (within width asked) (omega (arith, rises.0)) rest)

  pub below_within : (asked : List (ℕ × Bool)) → AllBelow width (within width asked)
  below_within [] = tt
  below_within (a ∷ asked) =
      let rest = below_within asked in
      cond_both (ltb a.0 width) (a ∷ within width asked) (within width asked) (AllBelow width) (λ t. (ltb-true a.0 width t, rest)) (λ _. rest)

  pub rises_beyond : (from : ℕ) (asked : List (ℕ × Bool)) → Rises from asked → Rises (from - width) (beyond width asked)
  rises_beyond from [] rises = tt
  rises_beyond from (a ∷ asked) rises =
      let past = beyond width asked in
      let rest = rises_beyond (a.0 + 1) asked rises.1 in
      cond_both (ltb a.0 width) past ((a.0 - width, a.1) ∷ past) (Rises (from - width))
      (λ _. weaker (from - width) (a.0 + 1 - width) past (omega (arith, rises.0)) rest)
      (λ f. (omega (arith, rises.0), weaker (a.0 - width + 1) (a.0 + 1 - width) past (omega (arith, ltb-false a.0 width f)) rest))

  -- all values, by those of both parts
  has_split : (front behind : ℕ → Bool) (asked : List (ℕ × Bool)) → has (λ b. cond (ltb b width) (front b) (behind (b - width))) asked ≡ (has front (within width asked) && has behind (beyond width asked))
  has_split front behind [] = refl
  has_split front behind (a ∷ asked) = let rest = has_split front behind asked in elim (cases_Bool (ltb a.0 width)) [ inl t ↦ rw t (grind (arith, nat_tests)) | inr f ↦ rw f (grind (arith, nat_tests)) ]

-- past the last field
has_zero : (asked : List (ℕ × Bool)) → has (λ b. false) asked ≡ each (λ b v. not v) asked
has_zero [] = refl
has_zero (a ∷ asked) = elim (cases_Bool a.1) [ inl t ↦ rw t refl | inr f ↦ rw (f, has_zero asked) refl ]

module _ {Header Rule : Type 0} where
  -- for one field and rule: values that are admitted are those of some number that is taken
  abbrev pub ExactField : Rule → Field Header Rule → Type 0
  ExactField r f = (asked : List (ℕ × Bool)) → Rises 0 asked → AllBelow f.width asked → f.admits r asked ≡ true → (n : ℕ) × (n < 2 ^ f.width) × (f.takes r n ≡ true) × (has (bit_of f.width n) asked ≡ true)

  -- for each field a number that its rule takes and that has the field's values
  abbrev pub Numbers : List (Field Header Rule) → Rule → List (ℕ × Bool) → Type 0
  Numbers [] r asked = each (λ b v. not v) asked ≡ true
  Numbers (f ∷ fs) r asked = ((n : ℕ) × (n < 2 ^ f.width) × (f.takes r n ≡ true) × (has (bit_of f.width n) (within f.width asked) ≡ true)) × Numbers fs r (beyond f.width asked)

  -- a header made of such numbers
  abbrev pub MadeOf : List (Field Header Rule) → Rule → List (ℕ × Bool) → Header → Type 0
  MadeOf [] r asked h = each (λ b v. not v) asked ≡ true
  MadeOf (f ∷ fs) r asked h = ((f.takes r (f.number h) ≡ true) × (has (bit_of f.width (f.number h)) (within f.width asked) ≡ true)) × MadeOf fs r (beyond f.width asked) h

  -- it is matched, and has all values
  pub fields_matched : (fs : List (Field Header Rule)) (r : Rule) (asked : List (ℕ × Bool)) (h : Header) → MadeOf fs r asked h → (matches_in fs r h ≡ true) × (has (bit_in fs h) asked ≡ true)
  fields_matched [] r asked h e = (refl, has_zero asked ∙ e)
  fields_matched (f ∷ fs) r asked h made =
      let rest = fields_matched fs r (beyond f.width asked) h made.1 in
      let front = bit_of f.width (f.number h) in (
        and_from (f.takes r (f.number h)) (matches_in fs r h) made.0.0 rest.0,
        has_split f.width front (bit_in fs h) asked ∙ and_from (has front (within f.width asked)) (has (bit_in fs h) (beyond f.width asked)) made.0.1 rest.1,
      )

  pub fields_exact : (fs : List (Field Header Rule)) (r : Rule) → AllByRecursion (ExactField r) fs → (from : ℕ) (asked : List (ℕ × Bool)) → Rises from asked → admits_in fs r asked ≡ true → Numbers fs r asked
  fields_exact [] r exact from asked rises e = e
  fields_exact (f ∷ fs) r exact from asked rises e =
      let parts = and_parts (f.admits r (within f.width asked)) (admits_in fs r (beyond f.width asked)) e in (
        exact.0 (within f.width asked) (weaker 0 from (within f.width asked) (omega arith) (rises_within f.width from asked rises)) (below_within f.width asked) parts.0,
        fields_exact fs r exact.1 (from - f.width) (beyond f.width asked) (rises_beyond f.width from asked rises) parts.1,
      )

-- a header that has some values has them as its own, so a lawful kind admits them where it matches
own_values : (value : ℕ → Bool) (bits : List ℕ) (cell : ℕ) → has value (valued bits cell) ≡ true → valued bits cell ≡ with_values value bits
own_values value [] cell e = refl
own_values value (b ∷ bs) cell e =
    let v = digit cell (length bs) in
    let parts = and_parts (beq v (value b)) (has value (valued bs cell)) e in
    ap₂ (λ (v : Bool) (rest : List (ℕ × Bool)). (b, v) ∷ rest) ((booleans_Decides v (value b)).0 parts.0) (own_values value bs cell parts.1)

pub matched_admits : {Header Rule Row : Type 0} (k : Meaning Header Rule Row) → Lawful k → (IsHeader : Header → Type 0) (r : Rule) (bits : List ℕ) → IsBits bits → (cell : ℕ) → IsMatched k IsHeader r (valued bits cell) → k.admits r (valued bits cell) ≡ true
matched_admits k law IsHeader r bits is cell found =
    ap (k.admits r) (own_values (k.bit found.0) bits cell found.3) ∙ law.agrees r found.0 found.2 bits is

-- numbers with the same digits
pub same_digits : (w a b : ℕ) → a < 2 ^ w → b < 2 ^ w → ((k : ℕ) → k < w → digit a k ≡ digit b k) → a ≡ b
same_digits w a b p q same =
    same_from_bits_below w a b p q (λ k lt. sym (is_byte (bit_at a k) (omega arith)) ∙ ap bool_byte (same k lt) ∙ is_byte (bit_at b k) (omega arith))

-- a number that has some bits
digit_at : (n : ℕ) (bits : List ℕ) (b : ℕ) → b < length bits → (get_or (valued bits n) b (0, false)).1 ≡ digit n (length bits - 1 - b)
digit_at n [] b lt = absurd (omega arith)
digit_at n (c ∷ bs) zero lt = ap (digit n) (omega arith)
digit_at n (c ∷ bs) (suc b) lt = digit_at n bs b (omega arith) ∙ ap (digit n) (omega arith)

pub numbered : (w : ℕ) (bit : ℕ → Bool) → (n : ℕ) × (n < 2 ^ w) × ((b : ℕ) → b < w → bit_of w n b ≡ bit b)
numbered w bit =
    let all = range_with_len 0 w in
    let long : length all ≡ w = length-range_with_len 0 w in
    let told : (b : ℕ) → b < w → bit_of (length all) (number_of bit all) b ≡ bit b = λ b lt. sym (digit_at (number_of bit all) all b (omega (arith, long))) ∙ rw (valued_own bit all, get_or-map-range_with_len {X = ℕ × Bool} (λ c. (c, bit c)) 0 w b b (0, false) lt (omega arith)) refl in
    subst (λ (l : ℕ). (n : ℕ) × (n < 2 ^ l) × ((b : ℕ) → b < w → bit_of l n b ≡ bit b)) long (number_of bit all, number_below bit all, told)

-- values that are asked where some bits are given: bits that have all, of which those below the first that is asked are as before
module _ (given own : ℕ → Bool) where
  abbrev IsGiven : (ℕ → Bool) → Type 0
  IsGiven bit = (b : ℕ) → given b ≡ true → bit b ≡ own b

  told : (from : ℕ) (asked : List (ℕ × Bool)) → Rises from asked → each (λ b v. cond (given b) (beq v (own b)) true) asked ≡ true → (bit : ℕ → Bool) → IsGiven bit → (all : ℕ → Bool) × IsGiven all × (has all asked ≡ true) × ((b : ℕ) → b < from → all b ≡ bit b)
  told from [] rises e bit is = (bit, is, refl, λ b lt. refl)
  told from (a ∷ asked) rises e bit is =
      let parts = and_parts (cond (given a.0) (beq a.1 (own a.0)) true) (each (λ b v. cond (given b) (beq v (own b)) true) asked) e in
      let next : ℕ → Bool = λ b. cond (eqb b a.0) a.1 (bit b) in
      let also : IsGiven next = λ b g. let kept = is b g in let first = parts.0 in let says = (booleans_Decides a.1 (own a.0)).0 in grind (arith, nat_tests) in
      let all = told (a.0 + 1) asked rises.1 parts.1 next also in
      let here : a.1 ≡ all.0 a.0 = let e = all.3 a.0 (omega arith) in grind (arith, nat_tests) in (
        all.0,
        all.1,
        and_from (beq a.1 (all.0 a.0)) (has all.0 asked) ((booleans_Decides a.1 (all.0 a.0)).1 here) all.2,
        λ b lt. let e = all.3 b (omega (arith, rises.0)) in let le = rises.0 in grind (arith, nat_tests),
      )

-- some bits of a number are given, and the others free: the number that has the given ones and the values that are asked
module _ (w value : ℕ) (given : ℕ → Bool) where
  has_below : (bit own : ℕ → Bool) (asked : List (ℕ × Bool)) → AllBelow w asked → ((b : ℕ) → b < w → own b ≡ bit b) → has own asked ≡ has bit asked
  has_below bit own [] below same = refl
  has_below bit own (a ∷ asked) below same = ap₂ (λ (v rest : Bool). beq a.1 v && rest) (same a.0 below.0) (has_below bit own asked below.1 same)

  pub fixed_exact : (asked : List (ℕ × Bool)) → Rises 0 asked → AllBelow w asked → each (λ b v. cond (given b) (beq v (bit_of w value b)) true) asked ≡ true → (n : ℕ) × (n < 2 ^ w) × ((k : ℕ) → k < w → given (w - 1 - k) ≡ true → digit n k ≡ digit value k) × (has (bit_of w n) asked ≡ true)
  fixed_exact asked rises below e =
      let all = told given (bit_of w value) 0 asked rises e (bit_of w value) (λ b g. refl) in
      let n = numbered w all.0 in
      let kept : (k : ℕ) → k < w → given (w - 1 - k) ≡ true → digit n.0 k ≡ digit value k = λ k lt g. let place : k ≡ w - 1 - (w - 1 - k) = omega arith in rw place (n.2 (w - 1 - k) (omega arith) ∙ all.1 (w - 1 - k) g) in
      (n.0, n.1, kept, has_below all.0 (bit_of w n.0) asked below n.2 ∙ all.2)

-- a value under a mask
masked_digit : (m v n : Bool) → (m ≡ true → n ≡ v) → (v && m) ≡ v → (n && m) ≡ v
masked_digit m v n same e = grind (arith, nat_tests)

pub mask_exact : (w value mask : ℕ) → bit_and value mask ≡ value → value < 2 ^ w → (asked : List (ℕ × Bool)) → Rises 0 asked → AllBelow w asked → each (mask_admits w value mask) asked ≡ true → (n : ℕ) × (n < 2 ^ w) × (mask_matches value mask n ≡ true) × (has (bit_of w n) asked ≡ true)
mask_exact w value mask inside few asked rises below e =
    let f = fixed_exact w value (bit_of w mask) asked rises below e in
    let matches : bit_and f.0 mask ≡ value = same_digits w (bit_and f.0 mask) value (omega (arith, and_le_l f.0 mask, f.1)) few (λ k lt.
    let place : w - 1 - (w - 1 - k) ≡ k = omega arith in
    digit_and f.0 mask k
    ∙ masked_digit (digit mask k) (digit value k) (digit f.0 k) (λ m. f.2 k lt (ap (digit mask) place ∙ m)) (sym (digit_and value mask k) ∙ ap (λ (n : ℕ). digit n k) inside)) in
    (f.0, f.1, eq-eqb (bit_and f.0 mask) value matches, f.3)
