use Rattle.std.proofs.Common.{arith}
use Rattle.blocks.proofs.tally.judged.Goals as goal

-- the sizes have 32 bits
pub returns-clause-below : goal.returns-clause-below
returns-clause-below g c = omega (arith, c.cost_of.ensures, g.met.J.Judge.below c.args.judge.now c.args.sizes.now (λ k lt. omega (arith, c.type_inv.sizes k)))
