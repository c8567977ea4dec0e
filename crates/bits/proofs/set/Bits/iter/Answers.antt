use Rattle.std.proofs.Common.{rules}
use Rattle.bits.proofs.Places.{are_bits}
use Rattle.bits.proofs.set.Bits.iter.Goals as goal

pub returns-clause-bits : goal.returns-clause-bits
returns-clause-bits c = are_bits c.self.inside _ c.self.invariant (search rules)
