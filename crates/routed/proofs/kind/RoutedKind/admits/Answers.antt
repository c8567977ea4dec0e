use Rattle.std.proofs.Common.{arith}
use Rattle.std.proofs.lemmas.Bool.Decides.{nat_tests}
use Rattle.kinds.specs.Values.{valued}
use Rattle.kinds.specs.Spans.{in_span}
use Rattle.routed.proofs.Told.{told}
use Rattle.routed.proofs.Matched.{exact}
use Rattle.routed.proofs.kind.RoutedKind.admits.Goals as goal

same : goal.returns-clause-answer
same c =
    let rule = c.args.rule.now in
    let cell = c.args.cell in
    let source = c.span-source.result in
    let destination = c.span-destination.result in
    let first = rw c.new-chosen.ensures at (c.span-source.ensures cell) in
    let second = rw c.new-chosen.ensures at (c.span-destination.ensures cell) in
    grind (arith, nat_tests, told rule (valued c.args.bits.now cell) (in_span source cell) (in_span destination cell) first second)

pub returns-clause-answer : goal.returns-clause-answer
returns-clause-answer c = same c

pub returns-clause-exact : goal.returns-clause-exact
returns-clause-exact c = exact c.args.rule.now (omega arith, omega arith, omega arith, omega arith, omega arith) c.args.bits.now c.admits_each.ensures.bits c.args.cell _ (same c)
