use Rattle.std.proofs.Common.{rules, length}
use Rattle.kinds.specs.Lines.{rules_of}
use Rattle.table.proofs.Rooms.{chosen_room}
use Rattle.table.proofs.layers.choose.Goals as goal

pub returns-clause-room : goal.returns-clause-room
returns-clause-room g c =
    let reached = c.in_ok-choose.ensures.reached in
    chosen_room g.K.Kind.meaning (rules_of g.K.Kind.meaning c.args.lines.now) c.in_ok-choose.field-0.bits c.args.limits (length c.args.tally.now) c.args.room (search rules) reached.few reached.fits
