-- The largest number that the digits of cells make of the ports up to an end.
use Rattle.std.proofs.Common.{◌≡◌, ℕ, ◌+◌, ◌-◌, ◌*◌, ◌^◌, ◌<◌, ◌≤◌, Bool, cond, ◌&&◌, leb, ltb, min, List, [], ◌∷◌, length, arith, pow_mono, add-mul}
use native.Mathlib.Nat.{two-pow-succ, mul-add}
use Rattle.std.proofs.Math.Nat.{le-mul_of_pos_right}
use Rattle.std.proofs.lemmas.Nat.{pow_pos}
use Rattle.std.proofs.lemmas.Bool.Decides.{nat_tests}
use Rattle.bits.specs.Sixteens.{worth}
use Rattle.routed.specs.Turns.{most}

abbrev pub counts : (digit size end : ℕ) → Bool
counts digit size end = ltb 0 digit && (ltb digit size && leb digit end)

module _ (k size : ℕ) where
  pub most_below : (end : ℕ) (bits : List ℕ) → most k size end bits < 2 ^ length bits
  most_below end [] = omega arith
  most_below end (b ∷ bits) = let u = worth k b in grind (arith, nat_tests, most_below (min (end - u) (u - 1)) bits, most_below end bits, two-pow-succ (length bits))

  module _ (so_far end whole : ℕ) (left : List ℕ) (e : so_far * 2 ^ length left + most k size end left ≡ whole) where
    pub few_so_far : (bits : List ℕ) → length bits ≤ 12 → whole < 2 ^ length bits → so_far < 4096
    few_so_far bits few less = omega (arith, le-mul_of_pos_right so_far (pow_pos (length left)), pow_mono {i = length bits} {j = 12} few)

    -- one bit more, with a one or without
    pub most_step : (b : ℕ) (bits : List ℕ) → left ≡ b ∷ bits → (next rest : ℕ) → next ≡ so_far * 2 + cond (counts (worth k b) size end) 1 0 → rest ≡ cond (counts (worth k b) size end) (min (end - worth k b) (worth k b - 1)) end → next * 2 ^ length bits + most k size rest bits ≡ whole
    most_step b bits is next rest next_is rest_is =
        let n = length bits in
        let all = rw is at e in
        grind (arith, nat_tests, two-pow-succ n, mul-add so_far (2 ^ n) (2 ^ n), add-mul (so_far * 2) 1 (2 ^ n))
