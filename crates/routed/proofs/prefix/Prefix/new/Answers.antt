use Rattle.std.proofs.Common.{sym}
use Rattle.routed.proofs.Made.{prefix_made}
use Rattle.routed.proofs.prefix.Prefix.new.Goals as goal

pub returns : goal.returns
returns c = sym (prefix_made _)
