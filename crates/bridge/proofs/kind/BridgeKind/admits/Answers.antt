use Rattle.std.proofs.Common.{sym, ◌∙◌, arith}
use Rattle.kinds.specs.Values.{valued}
use Rattle.bridge.proofs.Exact.{by_bits, exact}
use Rattle.bridge.proofs.kind.BridgeKind.admits.Goals as goal

pub returns-clause-answer : goal.returns-clause-answer
returns-clause-answer c = c.admits_each.ensures.answer ∙ sym (by_bits c.args.rule.now (valued c.args.bits.now c.args.cell))

pub returns-clause-exact : goal.returns-clause-exact
returns-clause-exact c = exact c.args.rule.now (omega arith, omega arith, omega arith) c.args.bits.now c.admits_each.ensures.bits c.args.cell c.admits_each.result (c.admits_each.ensures.answer ∙ sym (by_bits c.args.rule.now (valued c.args.bits.now c.args.cell)))
