-- A rising list stays rising as a bit joins or leaves.
use Rattle.std.proofs.Common.{◌≡◌, ℕ, ◌<◌, true, false, List, [], ◌∷◌, refl, arith}
use Rattle.std.proofs.lemmas.Bool.Decides.{nat_tests}
use Rattle.bits.specs.Sets.{below_first, rising, member, with_bit, without_bit}

-- a number below a list stays below it as a larger bit joins
first_with_bit : (b c : ℕ) (cs : List ℕ) → c < b → below_first c cs ≡ true → below_first c (with_bit b cs) ≡ true
first_with_bit b c [] lt u = grind (arith, nat_tests)
first_with_bit b c (d ∷ ds) lt u = grind (arith, nat_tests)

-- a rising list rises still as a new bit joins
pub rising-with_bit : (b : ℕ) (l : List ℕ) → rising l ≡ true → member b l ≡ false → rising (with_bit b l) ≡ true
rising-with_bit b [] r m = refl
rising-with_bit b (c ∷ cs) r m =
    let rest = rising-with_bit b cs (grind (arith, nat_tests)) (grind (arith, nat_tests)) in
    grind (arith, nat_tests, first_with_bit)

-- a number below a list stays below it as a bit leaves
first_without : (out c : ℕ) (cs : List ℕ) → rising (c ∷ cs) ≡ true → below_first c (without_bit out cs) ≡ true
first_without out c [] r = refl
first_without out c (d ∷ []) r = grind (arith, nat_tests)
first_without out c (d ∷ e ∷ es) r = grind (arith, nat_tests)

-- a rising list rises still as a bit leaves
pub rising_without : (out : ℕ) (l : List ℕ) → rising l ≡ true → rising (without_bit out l) ≡ true
rising_without out [] r = refl
rising_without out (c ∷ cs) r =
    let first = first_without out c cs r in
    let rest = rising_without out cs (grind (arith, nat_tests)) in
    grind (arith, nat_tests)
