use Rattle.std.proofs.Common.{sym}
use Rattle.routed.proofs.Made.{range_made}
use Rattle.routed.proofs.ports.PortRange.new.Goals as goal

pub returns : goal.returns
returns c = sym (range_made _)
