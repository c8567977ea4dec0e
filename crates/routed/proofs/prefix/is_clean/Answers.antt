use Rattle.routed.proofs.Clean.{nothing_left}
use Rattle.routed.proofs.prefix.is_clean.Goals as goal

pub returns : goal.returns
returns c = nothing_left c.args.address c.args.length c.requires c.from.ensures c.ranges.address.fits
