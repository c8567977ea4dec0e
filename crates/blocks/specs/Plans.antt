-- What a plan lays: the rules of its lines, of which one may be replaced. Assumes nothing.
use Rattle.std.specs.Prelude.{List, Option}
use Rattle.kinds.specs.Meaning.{Meaning}
use Rattle.kinds.specs.Lines.{rules_of}
use Rattle.blocks.specs.Changes.{changed}
use Rattle.blocks.specs.declared.plan.Plan.{Plan}

abbrev pub rules_in : {Header Rule Row : Type 0} → Meaning Header Rule Row → Plan Row → List (Option Rule)
rules_in k plan = rules_of k (changed plan.change plan.lines.now)
