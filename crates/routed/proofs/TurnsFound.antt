-- Where two numbers differ first, by the highest digit of what they differ in.
use Rattle.std.proofs.Common.{◌≡◌, ℕ, suc, ◌-◌, ◌*◌, ◌/◌, ◌%◌, ◌^◌, ◌<◌, ◌≤◌, max, sym, ap, ◌∙◌, inl, inr, ◌⊎◌, arith, pow_mono}
use Rattle.std.specs.Int.{bit_at}
use Rattle.std.specs.Int.Bits.{bit_xor, xor_self}
use native.Mathlib.Nat.{two-pow-succ}
use Rattle.std.proofs.Math.Nat.{div-eq_of_lt, mod-eq_of_lt}
use Rattle.std.proofs.lemmas.Bool.{cases_lt}
use Rattle.std.proofs.lemmas.Bool.Decides.{nat_tests}
use Rattle.std.proofs.lemmas.Nat.{shr_split, xor_shr, xor_of_16, leading_top, pow_below}
use Rattle.std.proofs.lemmas.Nat.Bits.{same_from_bits, bit_at_xor, bit_at-zero}
use Rattle.routed.specs.Turns.{Turns}
use Rattle.routed.proofs.Ones.{split}

pub same_if : (a b : ℕ) → bit_xor a b ≡ 0 → a ≡ b
same_if a b e = same_from_bits a b (λ i. omega (arith, bit_at_xor a b i, ap (λ (n : ℕ). bit_at n i) e, bit_at-zero i))

-- they differ first at a place
abbrev pub Found : (low high top : ℕ) → Type 0
Found low high top = Turns low high top (2 ^ top - 1 - low % 2 ^ top) (high % 2 ^ top)

module _ (low high top : ℕ) (le : low ≤ high) (some : 2 ^ top ≤ max (bit_xor low high) 1) where
  turns : low < high → max (bit_xor low high) 1 < 2 * 2 ^ top → Found low high top
  turns less few =
      let s = 2 ^ suc top in
      let apart = same_if low high in
      let whole : bit_xor low high % s ≡ bit_xor low high = mod-eq_of_lt (omega (arith, two-pow-succ top)) in
      let one = split (bit_xor low high) top in
      let front : low / s ≡ high / s = same_if (low / s) (high / s) (sym (xor_shr low high (suc top)) ∙ div-eq_of_lt (omega (arith, two-pow-succ top))) in
      let same = ap (λ (n : ℕ). n * s) front in
      let low_is = shr_split low (suc top) in
      let high_is = shr_split high (suc top) in
      let behind = (split low top).1 in
      record {
        front = low / s;
        low_is = grind (arith, nat_tests, bit_at_xor low high top, split low top, split high top);
        high_is = grind (arith, nat_tests, bit_at_xor low high top, split low top, split high top);
        over_few = omega arith;
        under_few = (split high top).1;
      }

  -- with one number alone the place is the last
  pub one_or_turns : max (bit_xor low high) 1 < 2 * 2 ^ top → ((low ≡ high) × (top ≡ 0)) ⊎ Found low high top
  one_or_turns few = elim (cases_lt low high) [
    | inl less ↦ inr (turns less few)
    | inr more ↦ let same : low ≡ high = omega arith in inl (same, grind (arith, ap (λ (n : ℕ). bit_xor n high) same, xor_self high, pow_below 0 top))
  ]

  pub place_few : high < 2 ^ 16 → top < 16
  place_few few = grind (arith, xor_of_16 low high (omega arith) few, pow_mono {i = 16} {j = top})

pub place_of : (low high : ℕ) → low < high → high < 2 ^ 16 → (top : ℕ) × Found low high top
place_of low high less few =
    let at = leading_top 16 (max (bit_xor low high) 1) (omega arith) (omega (arith, xor_of_16 low high (omega arith) few)) in
    (at.0, turns low high at.0 (omega arith) at.2 less (omega (arith, at.3, two-pow-succ at.0)))
