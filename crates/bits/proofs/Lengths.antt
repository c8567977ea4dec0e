-- How long a set is with one bit more, with one less, and with one exchanged.
use Rattle.std.proofs.Common.{◌≡◌, ℕ, suc, ◌+◌, true, List, [], ◌∷◌, length, refl, ap, inl, inr, arith}
use Rattle.std.proofs.lemmas.Bool.{cases_eq, cases_lt, eq-eqb, ne_eqb, lt-ltb, le-ltb}
use Rattle.std.proofs.lemmas.Bool.Decides.{nat_tests}
use Rattle.bits.specs.Sets.{member, with_bit, without_bit, exchanged}

pub length_with : (b : ℕ) (l : List ℕ) → length (with_bit b l) ≡ length l + 1
length_with b [] = refl
length_with b (c ∷ cs) = elim (cases_lt b c) [ inl p ↦ rw (lt-ltb b c p) (omega arith) | inr p ↦ rw (le-ltb b c p) (omega (arith, length_with b cs)) ]

pub length_without : (b : ℕ) (l : List ℕ) → member b l ≡ true → suc (length (without_bit b l)) ≡ length l
length_without b [] m = grind (arith, nat_tests)
length_without b (c ∷ cs) m =
    elim (cases_eq b c) [
      | inl p ↦ rw (eq-eqb b c p)
      | inr n ↦ rw (ne_eqb b c n) (ap suc (length_without b cs (grind (arith, nat_tests))))
    ]

pub length_exchanged : (l : List ℕ) (out b : ℕ) → member out l ≡ true → length (exchanged l out b) ≡ length l
length_exchanged l out b m = omega (arith, length_with b (without_bit out l), length_without out l m)
