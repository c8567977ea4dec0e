use Rattle.std.proofs.Common.{length, arith}
use Rattle.layout.proofs.Whole.{few_in_all, last_start, whole}
use Rattle.layout.proofs.laying.write_table.Goals as goal

pub write_starts-requires-clause-few : goal.write_starts-requires-clause-few
write_starts-requires-clause-few g c = few_in_all g.K.Kind.meaning c.args.plan.now c.cells-cells.result c.args.tally.now c.cells-cells.ensures.answer c.requires.counted c.cells-cells.ensures.few

pub write_rest-requires-clause-count : goal.write_rest-requires-clause-count
write_rest-requires-clause-count g c = last_start g.K.Kind.meaning c.args.plan.now c.cells-cells.result c.args.tally.now c.cells-cells.ensures.answer c.requires.counted c.write_starts.new.starts c.write_starts.ensures.starts

pub write_rest-requires-clause-room : goal.write_rest-requires-clause-room
write_rest-requires-clause-room g c =
    omega (arith, last_start g.K.Kind.meaning c.args.plan.now c.cells-cells.result c.args.tally.now c.cells-cells.ensures.answer c.requires.counted c.write_starts.new.starts c.write_starts.ensures.starts, c.requires.room, c.split_at_mut-starts.ensures.back_len, c.cells-cells.ensures.answer)

pub returns : goal.returns
returns g c =
    whole g.K.Kind.meaning c.args.plan.now c.cells-cells.result c.args.tally.now c.cells-cells.ensures.answer c.requires.counted c.write_starts.new.starts c.write_starts.ensures.starts c.split_at_mut-starts.result.1.now c.write_rest.new.rest (length c.args.area.now)
    (omega (arith, c.split_at_mut-starts.ensures.back_len)) c.requires.room c.write_rest.ensures
