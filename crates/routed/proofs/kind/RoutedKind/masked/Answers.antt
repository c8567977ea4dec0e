use Rattle.std.proofs.Common.{◌∙◌}
use Rattle.std.proofs.Math.Bool.{and-true}
use Rattle.routed.proofs.Spread.{own_even}
use Rattle.routed.proofs.Told.{masked_told}
use Rattle.routed.proofs.kind.RoutedKind.masked.Goals as goal

pub returns-then-is_even-2 : goal.returns-then-is_even-2
returns-then-is_even-2 c =
    let rule = c.args.rule.now in
    let bits = c.args.chosen.now in
    c.make_masked-masked.ensures
    ∙ masked_told rule bits
    (λ cell. and-true _ ∙ own_even rule.source_ports 4 bits c.sixteen.ensures.bits c.sixteen.ensures.answer (c.is_even.ensures.even c.if-is_even.true) cell)
    (λ cell. and-true _ ∙ own_even rule.destination_ports 5 bits c.sixteen.ensures.bits c.sixteen-then-is_even.ensures.answer (c.is_even-then-is_even.ensures.even c.if-is_even-2.true) cell)
