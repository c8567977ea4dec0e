use Rattle.std.proofs.Common.{sym, ap, ◌∙◌, arith}
use Rattle.bits.specs.Sixteens.{sixteen}
use Rattle.bits.proofs.Sixteens.{sixteen_none}
use Rattle.bits.proofs.chosen.Chosen.sixteen.Goals as goal

pub returns-in-None-clause-answer : goal.returns-in-None-clause-answer
returns-in-None-clause-answer c = sym (ap (sixteen c.args.k) (sym c.self.view_is) ∙ sixteen_none c.args.k c.self.inside.bits (omega (arith, c.in-None.ensures.lookup)) c.self.invariant.bits.below)
