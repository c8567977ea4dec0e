-- Numbers that have some values at places below one: the least of them, and how far the largest is below only ones.
use Rattle.std.proofs.Common.{◌≡◌, ℕ, zero, suc, ◌+◌, ◌-◌, ◌*◌, ◌/◌, ◌%◌, ◌^◌, ◌<◌, ◌≤◌, Bool, true, false, cond, not, ◌&&◌, ◌||◌, ◌==◌, ltb, List, [], ◌∷◌, refl, ap, ◌∙◌, arith, pow_mono}
use Rattle.std.specs.Bool.{beq}
use Rattle.std.specs.Int.{bit_at}
use native.Mathlib.Nat.{two-pow-succ}
use Rattle.std.proofs.lemmas.Nat.{pow_pos, mod-pow-add, mod_below}
use Rattle.std.proofs.lemmas.Nat.Bits.{bit_at_above, bit_at_cat_low, bit_at_cat_high, bit_at-zero}
use Rattle.std.proofs.lemmas.Bool.Decides.{nat_tests}
use Rattle.kinds.specs.Bits.{digit, bit_of}
use Rattle.kinds.specs.Values.{each, weigh, Rises, AllBelow}
use Rattle.routed.specs.Turns.{marks, weight, ones}

-- a number's digit at a place, and what is behind it
pub split : (n p : ℕ) → (n % 2 ^ suc p ≡ weigh (digit n p) p + n % 2 ^ p) × (n % 2 ^ p < 2 ^ p)
split n p = (ap (λ (k : ℕ). n % 2 ^ k) (omega arith) ∙ mod-pow-add n 1 p ∙ ap (λ (w : ℕ). w + n % 2 ^ p) (worth (n / 2 ^ p % 2) (omega arith)), mod_below n (2 ^ p) (pow_pos p))
  where
    worth : (d : ℕ) → d < 2 → d * 2 ^ p ≡ weigh (d == 1) p
    worth d lt = grind (arith, nat_tests)

-- a digit in front of smaller ones
module _ (t : Bool) (p n : ℕ) (few : n < 2 ^ p) where
  pub front_digit : (m : ℕ) → digit (weigh t p + n) m ≡ ((p == m && t) || digit n m)
  front_digit m =
      let whole : weigh t p + n ≡ weigh t 0 * 2 ^ p + n = grind (arith, nat_tests) in
      let at = ap (λ (k : ℕ). bit_at k m) whole in
      grind (arith, nat_tests, bit_at_cat_low (weigh t 0) p n m, bit_at_cat_high (weigh t 0) p n m few, bit_at_above n p m few, bit_at_above 1 1 (m - p), bit_at-zero (m - p))

  pub front_low : (m : ℕ) → (weigh t p + n) % 2 ^ m ≡ weigh (ltb p m && t) p + n % 2 ^ m
  front_low zero = grind (arith, nat_tests)
  front_low (suc m) = grind (arith, nat_tests, front_low m, front_digit m, split (weigh t p + n) m, split n m, bit_at_above n p m few)

-- of some values, whether a number has those at places below m
abbrev pub has_below : (m n : ℕ) → List (ℕ × Bool) → Bool
has_below m n asked = each (λ b v. cond (ltb (15 - b) m) (beq v (bit_of 16 n b)) true) asked

-- what the bits are worth together, and those of each value
pub marks_few : (q from : ℕ) (asked : List (ℕ × Bool)) → from + q ≡ 16 → Rises from asked → AllBelow 16 asked → marks asked < 2 ^ q
marks_few q from [] is rises below = pow_pos q
marks_few q from (a ∷ asked) is rises below =
    let p = 15 - a.0 in
    omega (arith, marks_few p (a.0 + 1) asked (omega arith) rises.1 below.1, two-pow-succ p, pow_mono {i = suc p} {j = q} (omega arith))

pub both_values : (asked : List (ℕ × Bool)) → weight true asked + weight false asked ≡ marks asked
both_values [] = refl
both_values (a ∷ asked) = grind (arith, nat_tests, both_values asked)

pub weight_few : (v : Bool) (p : ℕ) (asked : List (ℕ × Bool)) → marks asked < 2 ^ p → weight v asked < 2 ^ p
weight_few v p asked few = grind (arith, nat_tests, both_values asked)

module _ (m : ℕ) where
  pub record Digits (asked : List (ℕ × Bool)) : Type 0 where
    pub either : digit (marks asked) m ≡ (digit (weight true asked) m || digit (weight false asked) m)
    pub one : (digit (weight true asked) m && digit (weight false asked) m) ≡ false
    pub next : (n : ℕ) → has_below (suc m) n asked ≡ (has_below m n asked && not (cond (digit n m) (digit (weight false asked) m) (digit (weight true asked) m)))

  pub digits : (from : ℕ) (asked : List (ℕ × Bool)) → Rises from asked → AllBelow 16 asked → Digits asked
  digits from [] rises below = let none = bit_at-zero m in record { either = grind (arith, nat_tests); one = grind (arith, nat_tests); next = λ n. grind (arith, nat_tests) }
  digits from (a ∷ asked) rises below =
      let p = 15 - a.0 in
      let rest = digits (a.0 + 1) asked rises.1 below.1 in
      let few = marks_few p (a.0 + 1) asked (omega arith) rises.1 below.1 in
      let front = λ (v : Bool). front_digit (beq v a.1) p (weight v asked) (weight_few v p asked few) m in
      let behind = λ (v : Bool). bit_at_above (weight v asked) p m (weight_few v p asked few) in
      record {
        either = grind (arith, nat_tests, front true, front false, front_digit true p (marks asked) few m);
        one = grind (arith, nat_tests, front true, front false, behind true, behind false);
        next = λ n. grind (arith, nat_tests, rest.next n, front true, front false, behind true, behind false, ap (digit n));
      }

none_below : (n : ℕ) (asked : List (ℕ × Bool)) → has_below 0 n asked ≡ true
none_below n [] = refl
none_below n (a ∷ asked) = grind (arith, nat_tests, none_below n asked)

module _ (asked : List (ℕ × Bool)) (rises : Rises 0 asked) (below : AllBelow 16 asked) where
  pub ones_both : (m : ℕ) → ones m true asked + ones m false asked ≡ marks asked % 2 ^ m
  ones_both zero = omega arith
  ones_both (suc m) =
      let d = digits m 0 asked rises below in
      grind (arith, nat_tests, ones_both m, split (marks asked) m, split (weight true asked) m, split (weight false asked) m)

  -- the least number that has the values, and the largest
  pub record Reached (m n : ℕ) : Type 0 where
    pub least : has_below m n asked ≡ true → ones m true asked ≤ n % 2 ^ m
    pub largest : has_below m n asked ≡ true → n % 2 ^ m + ones m false asked < 2 ^ m
    pub up : n % 2 ^ m ≡ ones m true asked → has_below m n asked ≡ true
    pub down : n % 2 ^ m + ones m false asked + 1 ≡ 2 ^ m → has_below m n asked ≡ true

  pub reached : (m n : ℕ) → Reached m n
  reached zero n = let all = none_below n asked in record { least = λ e. omega arith; largest = λ e. omega arith; up = λ e. all; down = λ e. all }
  reached (suc m) n =
      let rest = reached m n in
      let next = (digits m 0 asked rises below).next n in
      let own = split n m in
      let up = split (weight true asked) m in
      let down = split (weight false asked) m in
      let double = two-pow-succ m in
      record { least = λ e. grind (arith, nat_tests); largest = λ e. grind (arith, nat_tests); up = λ e. grind (arith, nat_tests, (digits m 0 asked rises below).one); down = λ e. grind (arith, nat_tests, (digits m 0 asked rises below).one) }
