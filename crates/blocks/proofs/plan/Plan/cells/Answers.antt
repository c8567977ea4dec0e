use Rattle.std.proofs.Common.{sym, ◌∙◌}
use Rattle.blocks.specs.Plans.{rules_in}
use Rattle.blocks.proofs.Plans.{none_naming}
use Rattle.blocks.proofs.plan.Plan.cells.Goals as goal

pub returns : goal.returns
returns g c = c.none.ensures ∙ none_naming g.K.Kind.meaning (rules_in g.K.Kind.meaning c.args.self.now) c.args.self.now.bits.now c.args.place (sym c.in-None.is ∙ c.rule.ensures)
