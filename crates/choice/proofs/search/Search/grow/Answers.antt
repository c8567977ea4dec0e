use Rattle.std.proofs.Common.{◌<◌, length, arith}
use Rattle.choice.proofs.Grows.{room_for_more}
use Rattle.choice.proofs.search.Search.grow.Goals as goal

pub best-requires-clause-room : goal.best-requires-clause-room
best-requires-clause-room g c =
    let few : length c.loop-tally.present.bits < c.args.most = omega (arith, c.len.ensures.answer) in
    room_for_more c.args.most _ c.loop-tally.present.bits few (omega (arith, c.loop-tally.invariant.kept.len, c.requires.room))
