use Rattle.std.proofs.Common.{◌%◌, ◌^◌, ◌≤◌, nat_eq, sym, ap, ◌∙◌, ℕ, arith, pow_mono}
use Rattle.std.proofs.Math.Nat.{div-eq_of_lt}
use Rattle.std.proofs.lemmas.Bool.{le-ltb}
use Rattle.kinds.proofs.digits.digit.Goals as goal

-- a number of 64 bits has no digit of a higher weight
pub returns-else-place-lt64 : goal.returns-else-place-lt64
returns-else-place-lt64 c =
    let weight : 2 ^ 64 ≤ 2 ^ c.args.place = pow_mono {i = 64} {j = c.args.place} (omega arith) in
    le-ltb c.args.place 64 (omega arith) ∙ sym (ap (λ (q : ℕ). nat_eq (q % 2) 1) (div-eq_of_lt (omega (arith, weight))))
