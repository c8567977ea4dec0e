use Rattle.std.proofs.Common.{ℕ, ◌/◌, ◌^◌, w32, sym, ap, ◌∙◌, inl, inr, bit_and, arith}
use Rattle.std.proofs.lemmas.Bool.Decides.{nat_tests}
use Rattle.std.specs.Int.{trailing_zeros}
use Rattle.routed.proofs.Alike.{alike_exact, low_alike}
use Rattle.routed.proofs.Reaches.{one_exact, even_exact}
use Rattle.routed.proofs.ports.PortRange.reaches_all.Goals as goal

pub returns-clause-even : goal.returns-clause-even
returns-clause-even c is asked rises below same = elim c.turn-size.ensures.turns [
  | inl one ↦ one_exact c.args.self one.0 asked
  | inr turns ↦
      let turn = c.turn-size.result in
      even_exact c.args.self _ _ _ turns asked _ (rises, below, same)
      (grind (arith, nat_tests, ap (bit_and c.args.digits) c.turn-size.ensures.size))
]

pub returns-then-from-digits-eq0-clause-even : goal.returns-then-from-digits-eq0-clause-even
returns-then-from-digits-eq0-clause-even c is asked rises below same =
    let none = ap (λ (n : ℕ). n / 2 ^ trailing_zeros w32 c.args.digits) (sym c.from.ensures) ∙ c.if-from-digits-eq0.true in
    alike_exact c.args.self asked (low_alike c.args.self c.args.digits c.requires (omega arith) none asked rises below same)
