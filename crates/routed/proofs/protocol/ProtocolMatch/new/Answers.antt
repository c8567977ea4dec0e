use Rattle.std.proofs.Common.{sym}
use Rattle.routed.proofs.Made.{protocol_made}
use Rattle.routed.proofs.protocol.ProtocolMatch.new.Goals as goal

pub returns : goal.returns
returns c = sym (protocol_made _)
