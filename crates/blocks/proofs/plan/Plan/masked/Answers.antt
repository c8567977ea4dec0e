use Rattle.std.proofs.Common.{sym, ◌∙◌}
use Rattle.blocks.specs.Plans.{rules_in}
use Rattle.blocks.proofs.Plans.{none_naming, told_naming}
use Rattle.blocks.proofs.plan.Plan.masked.Goals as goal

pub returns-in-Some : goal.returns-in-Some
returns-in-Some g c = told_naming g.K.Kind.meaning (rules_in g.K.Kind.meaning c.args.self.now) c.args.self.now.bits.now c.args.self.now.chosen c.args.place c.in-Some.rule c.masked.result (sym c.in-Some.is ∙ c.rule.ensures) c.args.self.now.told c.masked.ensures

pub returns-in-None : goal.returns-in-None
returns-in-None g c = c.none.ensures ∙ none_naming g.K.Kind.meaning (rules_in g.K.Kind.meaning c.args.self.now) c.args.self.now.bits.now c.args.place (sym c.in-None.is ∙ c.rule.ensures)
