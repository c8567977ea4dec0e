-- An address whose first bits are moved out: what is left is what stood behind them.
use Rattle.std.proofs.Common.{◌≡◌, ℕ, ◌+◌, ◌-◌, ◌*◌, ◌/◌, ◌%◌, ◌^◌, ◌<◌, ◌≤◌, ◌==◌, ap, ◌∙◌, sym, inl, inr, arith, mul-le-mul, pow_mono}
use Rattle.std.proofs.lemmas.Nat.{mod-pow-add, mod-mul-add, shr_high, pow_pos}
use Rattle.std.proofs.lemmas.Bool.{ne_eqb, eq-eqb, cases_eq}

module _ (address length : ℕ) (short : length ≤ 32) where
  left_over : (address * 2 ^ length) % 2 ^ 32 ≡ address % 2 ^ (32 - length) * 2 ^ length
  left_over =
      let whole : 32 - length + length ≡ 32 = omega arith in
      let high : (address * 2 ^ length) / 2 ^ length ≡ address = ap (λ (n : ℕ). n / 2 ^ length) (omega arith) ∙ shr_high address length 0 (pow_pos length) in
      let low : (address * 2 ^ length) % 2 ^ length ≡ 0 = ap (λ (n : ℕ). n % 2 ^ length) (omega arith) ∙ mod-mul-add address (2 ^ length) 0 (pow_pos length) in
      ap (λ (n : ℕ). (address * 2 ^ length) % 2 ^ n) (sym whole)
      ∙ mod-pow-add (address * 2 ^ length) (32 - length) length
      ∙ ap (λ (n : ℕ). n % 2 ^ (32 - length) * 2 ^ length + (address * 2 ^ length) % 2 ^ length) high
      ∙ omega (arith, low)

  pub nothing_left : {number : ℕ} → number ≡ address → address < 2 ^ 32 → ((number * 2 ^ length % 2 ^ 64) % 2 ^ 32 == 0) ≡ (address % 2 ^ (32 - length) == 0)
  nothing_left {number = number} is few =
      let rest = address % 2 ^ (32 - length) in
      let high : 2 ^ length ≤ 2 ^ 32 = pow_mono {i = length} {j = 32} short in
      let some : 1 ≤ 2 ^ length = omega (arith, pow_pos length) in
      let below : address ≤ 2 ^ 32 - 1 = omega arith in
      let fits : address * 2 ^ length ≤ (2 ^ 32 - 1) * 2 ^ 32 = mul-le-mul below high in
      let moved : (number * 2 ^ length % 2 ^ 64) % 2 ^ 32 ≡ rest * 2 ^ length =
      ap (λ (n : ℕ). (n * 2 ^ length % 2 ^ 64) % 2 ^ 32) is ∙ omega arith ∙ left_over in
      elim (cases_eq rest 0) [
        | inl e ↦ eq-eqb ((number * 2 ^ length % 2 ^ 64) % 2 ^ 32) 0 (omega (arith, moved, ap (λ (n : ℕ). n * 2 ^ length) e)) ∙ sym (eq-eqb rest 0 e)
        | inr ne ↦
            let positive : 1 ≤ rest = omega (arith, ne) in
            let more : 1 * 1 ≤ rest * 2 ^ length = mul-le-mul positive some in
            ne_eqb ((number * 2 ^ length % 2 ^ 64) % 2 ^ 32) 0 (λ none. omega (arith, moved, none, more)) ∙ sym (ne_eqb rest 0 ne)
      ]
