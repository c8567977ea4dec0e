use Rattle.std.proofs.Common.{◌≡◌, ◌+◌, ◌-◌, ◌%◌, arith}
use Rattle.routed.proofs.Reaches.{few_exact}
use Rattle.routed.proofs.ports.PortRange.is_even.Goals as goal

pub returns-then-digits-eq0-clause-even : goal.returns-then-digits-eq0-clause-even
returns-then-digits-eq0-clause-even c is asked rises below same =
    few_exact c.args.self.now (omega arith) asked rises below (λ some. let less : c.args.digits - 1 ≡ (c.args.digits + 4294967295) % 4294967296 = omega arith in cc)
