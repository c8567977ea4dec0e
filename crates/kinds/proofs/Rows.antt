-- A row of lawful fields is a lawful kind, and parts that admit bit by bit make a row that does.
use Rattle.std.proofs.Common.{◌≡◌, ℕ, ◌-◌, ◌≤◌, Bool, true, false, cond, not, ◌&&◌, ltb, List, [], ◌∷◌, map, filter, Option, refl, ap, ◌∙◌, inl, inr, arith}
use Rattle.std.specs.List.{AllByRecursion}
use Rattle.std.proofs.Math.Bool.{and-true}
use Rattle.std.proofs.lemmas.Bool.{cases_Bool, and_parts, and_from, le-ltb}
use Rattle.std.proofs.lemmas.Bool.Decides.{nat_tests}
use Rattle.kinds.specs.Meaning.{Lawful}
use Rattle.kinds.specs.Bits.{bit_of}
use Rattle.kinds.specs.Values.{with_values, each}
use Rattle.kinds.specs.Fields.{Field, LawfulField, width_of, bit_in, matches_in, admits_in, kind_of, within, beyond, alone_in}

-- own values that pass each by itself
pub each_own : (test : ℕ → Bool → Bool) (value : ℕ → Bool) → ((b : ℕ) → test b (value b) ≡ true) → (bits : List ℕ) → each test (with_values value bits) ≡ true
each_own test value own [] = refl
each_own test value own (b ∷ bs) = and_from (test b (value b)) (each test (with_values value bs)) (own b) (each_own test value own bs)

-- own values of a row, split into those of its first field and the others
module _ (width : ℕ) where
  abbrev bits_within : List ℕ → List ℕ
  bits_within bits = filter (λ b. ltb b width) bits

  abbrev bits_beyond : List ℕ → List ℕ
  bits_beyond bits = map (λ b. b - width) (filter (λ b. not (ltb b width)) bits)

  module _ (front behind : ℕ → Bool) where
    abbrev both : ℕ → Bool
    both b = cond (ltb b width) (front b) (behind (b - width))

    within_own : (bits : List ℕ) → within width (with_values both bits) ≡ with_values front (bits_within bits)
    within_own [] = refl
    within_own (b ∷ bs) = elim (cases_Bool (ltb b width)) [ inl t ↦ rw (t, within_own bs) refl | inr f ↦ rw (f, within_own bs) refl ]

    beyond_own : (bits : List ℕ) → beyond width (with_values both bits) ≡ with_values behind (bits_beyond bits)
    beyond_own [] = refl
    beyond_own (b ∷ bs) = elim (cases_Bool (ltb b width)) [ inl t ↦ rw (t, beyond_own bs) refl | inr f ↦ rw (f, beyond_own bs) refl ]

module _ {Header Rule : Type 0} where
  fields_agree : (fs : List (Field Header Rule)) → AllByRecursion LawfulField fs → (r : Rule) (h : Header) → matches_in fs r h ≡ true → (bits : List ℕ) → admits_in fs r (with_values (bit_in fs h) bits) ≡ true
  fields_agree [] laws r h e bits = each_own (λ b v. not v) (λ b. false) (λ b. refl) bits
  fields_agree (f ∷ fs) laws r h e bits =
      let parts = and_parts (f.takes r (f.number h)) (matches_in fs r h) e in
      let front = bit_of f.width (f.number h) in
      rw (within_own f.width front (bit_in fs h) bits, beyond_own f.width front (bit_in fs h) bits)
      (and_from (f.admits r (with_values front (bits_within f.width bits))) _ (laws.0.agrees r (f.number h) parts.0 (bits_within f.width bits)) (fields_agree fs laws.1 r h parts.1 (bits_beyond f.width bits)))

  yes_to_none : (fs : List (Field Header Rule)) → AllByRecursion LawfulField fs → (r : Rule) → admits_in fs r [] ≡ true
  yes_to_none [] laws r = refl
  yes_to_none (f ∷ fs) laws r = and_from (f.admits r []) (admits_in fs r []) (laws.0.yes_to_none r) (yes_to_none fs laws.1 r)

  zero_past : (fs : List (Field Header Rule)) (h : Header) (b : ℕ) → width_of fs ≤ b → bit_in fs h b ≡ false
  zero_past [] h b le = refl
  zero_past (f ∷ fs) h b le = rw (le-ltb b f.width (omega arith)) (zero_past fs h (b - f.width) (omega arith))

  only_zero_past : (fs : List (Field Header Rule)) → AllByRecursion LawfulField fs → (r : Rule) (b : ℕ) (v : Bool) → width_of fs ≤ b → admits_in fs r ((b, v) ∷ []) ≡ not v
  only_zero_past [] laws r b v le = and-true (not v)
  only_zero_past (f ∷ fs) laws r b v le = rw (le-ltb b f.width (omega arith), laws.0.yes_to_none r) (only_zero_past fs laws.1 r (b - f.width) v (omega arith))

  pub fields_lawful : {Row : Type 0} (fs : List (Field Header Rule)) (holds : Row → Option Rule) → 1 ≤ width_of fs → width_of fs ≤ 1024 → AllByRecursion LawfulField fs → Lawful (kind_of fs holds)
  fields_lawful fs holds some few laws = record { some_bits = some; few_bits = few; agrees = λ r h e bits is. fields_agree fs laws r h e bits; yes_to_none = yes_to_none fs laws; zero_beyond = zero_past fs; only_zero_beyond = only_zero_past fs laws }

-- bit by bit
module _ (width : ℕ) (front behind : ℕ → Bool → Bool) where
  abbrev pub joined : ℕ → Bool → Bool
  joined b v = cond (ltb b width) (front b v) (behind (b - width) v)

  pub each_split : (asked : List (ℕ × Bool)) → (each front (within width asked) && each behind (beyond width asked)) ≡ each joined asked
  each_split [] = refl
  each_split (a ∷ asked) = let rest = each_split asked in elim (cases_Bool (ltb a.0 width)) [ inl t ↦ rw t (grind (arith, nat_tests)) | inr f ↦ rw f (grind (arith, nat_tests)) ]

-- parts side by side that admit bit by bit
abbrev pub admits_parts : List (ℕ × (ℕ → Bool → Bool)) → List (ℕ × Bool) → Bool
admits_parts [] asked = each (λ b v. not v) asked
admits_parts (part ∷ parts) asked = each part.1 (within part.0 asked) && admits_parts parts (beyond part.0 asked)

pub each_row : (parts : List (ℕ × (ℕ → Bool → Bool))) (asked : List (ℕ × Bool)) → admits_parts parts asked ≡ each (alone_in parts) asked
each_row [] asked = refl
each_row (part ∷ parts) asked =
    ap (λ (t : Bool). each part.1 (within part.0 asked) && t) (each_row parts (beyond part.0 asked))
    ∙ each_split part.0 part.1 (alone_in parts) asked
