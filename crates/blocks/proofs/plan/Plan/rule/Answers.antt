use Rattle.std.proofs.Common.{rules}
use Rattle.blocks.specs.Changes.{changed}
use Rattle.blocks.proofs.Plans.{ruled}
use Rattle.blocks.proofs.plan.Plan.rule.Goals as goal

pub returns : goal.returns
returns g c = ruled g.K.Kind.meaning (changed c.args.self.now.change c.args.self.now.lines.now) c.args.place c.and_then.result (rw (← c.line.ensures) (search rules))
