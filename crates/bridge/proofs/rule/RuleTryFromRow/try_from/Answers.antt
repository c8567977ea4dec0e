use Rattle.std.proofs.Common.{sym}
use Rattle.bridge.proofs.Made.{made}
use Rattle.bridge.proofs.rule.RuleTryFromRow.try_from.Goals as goal

pub returns : goal.returns
returns c = sym (made c.args.row _)
