-- Which numbers a list has.
use Rattle.std.proofs.Common.{◌≡◌, ℕ, zero, suc, ◌<◌, ◌≤◌, true, false, not, ◌&&◌, ◌||◌, eqb, List, [], ◌∷◌, length, get_or, take, refl, ⊎_elim, inl, inr, arith}
use Rattle.std.specs.List.{list_any}
use Rattle.std.proofs.lemmas.Bool.{cases_Bool, cases_eq, eq-eqb, ne_eqb}
use Rattle.std.proofs.lemmas.Bool.Decides.{nat_tests}
use Rattle.bits.specs.Sets.{rising, member, with_bit, without_bit}

-- a search through the list finds its members
pub list_any-member : (b : ℕ) (l : List ℕ) → list_any (λ c. eqb c b) l ≡ member b l
list_any-member b [] = refl
list_any-member b (c ∷ cs) = let rest = list_any-member b cs in grind (arith, nat_tests)

-- what stands at a place is a member
pub member_at : (b : ℕ) (l : List ℕ) (k : ℕ) → k < length l → get_or l k 0 ≡ b → member b l ≡ true
member_at b [] k lt e = absurd (omega arith)
member_at b (c ∷ cs) zero lt e = grind (arith, nat_tests)
member_at b (c ∷ cs) (suc k) lt e = let rest = member_at b cs k (omega arith) e in grind (arith, nat_tests)

-- a list with a member is not empty
pub member_some : (b : ℕ) (l : List ℕ) → member b l ≡ true → 0 < length l
member_some b [] m = grind (arith, nat_tests)
member_some b (c ∷ cs) m = omega arith

-- what stands behind the first number of a rising list lies above it
pub member_behind : (b c : ℕ) (cs : List ℕ) → rising (c ∷ cs) ≡ true → member b cs ≡ true → c < b
member_behind b c [] r m = grind (arith, nat_tests)
member_behind b c (d ∷ ds) r m =
    let up : rising (d ∷ ds) ≡ true = grind (arith, nat_tests) in
    grind (arith, nat_tests, member_behind b d ds up)

-- the last number of a rising list is the largest
pub member_last : (b n : ℕ) (l : List ℕ) → n < length l → rising (take (suc n) l) ≡ true → member b (take (suc n) l) ≡ true → b ≤ get_or l n 0
member_last b n [] lt r m = absurd (omega arith)
member_last b zero (c ∷ cs) lt r m = grind (arith, nat_tests)
member_last b (suc n) (c ∷ []) lt r m = absurd (omega arith)
member_last b (suc n) (c ∷ d ∷ ds) lt r m =
    let up : rising (take (suc n) (d ∷ ds)) ≡ true = grind (arith, nat_tests) in
    let first = member_last d n (d ∷ ds) (omega arith) up (grind (arith, nat_tests)) in
    grind (arith, nat_tests, member_last b n (d ∷ ds) (omega arith) up)

-- what was no member is none as another bit leaves
pub member_without : (b out : ℕ) (l : List ℕ) → member b l ≡ false → member b (without_bit out l) ≡ false
member_without b out [] m = refl
member_without b out (c ∷ cs) m =
    let rest = member_without b out cs (grind (arith, nat_tests)) in
    grind (arith, nat_tests)

-- the members of a set with one bit more
pub member_with : (bit b : ℕ) (l : List ℕ) → member b (with_bit bit l) ≡ (eqb b bit || member b l)
member_with bit b [] = grind (arith, nat_tests)
member_with bit b (c ∷ cs) =
    let rest = member_with bit b cs in
    grind (arith, nat_tests)

-- the members of a set without one bit
pub member_left : (out b : ℕ) (l : List ℕ) → rising l ≡ true → member b (without_bit out l) ≡ (not (eqb b out) && member b l)
member_left out b [] r = grind (arith, nat_tests)
member_left out b (c ∷ cs) r =
    let up : rising cs ≡ true = grind (arith, nat_tests) in
    let rest = member_left out b cs up in
    let behind = member_behind b c cs r in
    elim (cases_eq out c) [
      | inl p ↦ (let once : b ≡ c → member b cs ≡ false = λ q. ⊎_elim (λ m. absurd (omega (arith, behind m))) (λ n. n) (cases_Bool (member b cs)) in
          rw (eq-eqb out c p) (elim (cases_eq b c) [
            | inl q ↦ rw (eq-eqb b c q, eq-eqb b out (omega arith)) (once q)
            | inr n ↦ rw (ne_eqb b c n, ne_eqb b out (λ e. n (omega arith)))
          ]))
      | inr n ↦ rw (ne_eqb out c n) (grind (arith, nat_tests))
    ]
