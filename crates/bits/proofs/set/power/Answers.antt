use Rattle.std.proofs.Common.{arith, pow_mono}
use Rattle.bits.proofs.set.power.Goals as goal

pub returns-clause-few : goal.returns-clause-few
returns-clause-few c = omega (arith, pow_mono {i = c.args.bits} {j = 12} c.requires)
