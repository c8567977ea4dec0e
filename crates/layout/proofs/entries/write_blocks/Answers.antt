use Rattle.std.proofs.Common.{◌∙◌, ap, length, arith}
use Rattle.blocks.specs.Plans.{rules_in}
use Rattle.blocks.proofs.Plans.{the_cells, length-rules_in, few_entries}
use Rattle.layout.proofs.Placing.{cursors_first, none_written, places_more, cursors_more, written_more, all_written, length-cursors_at}
use Rattle.layout.proofs.entries.write_blocks.Goals as goal

pub loop-line-init : goal.loop-line-init
loop-line-init g c = record {
  cursors = cursors_first g.K.Kind.meaning (rules_in g.K.Kind.meaning c.args.plan.now) c.args.plan.now.bits.now c.args.cursors.now c.requires.starts;
  written = none_written g.K.Kind.meaning (rules_in g.K.Kind.meaning c.args.plan.now) c.args.plan.now.bits.now c.args.entries.now;
}

pub write_entries-requires-clause-places : goal.write_entries-requires-clause-places
write_entries-requires-clause-places g c =
    places_more g.K.Kind.meaning (rules_in g.K.Kind.meaning c.args.plan.now) c.args.plan.now.bits.now c.loop-line.line (omega (arith, length-rules_in g.K.Kind.meaning c.args.plan.now)) c.loop-line.entries c.loop-line.invariant.cursors (the_cells g.K.Kind.meaning c.args.plan.now c.loop-line.line) (c.loop-line.auto.entries ∙ c.requires.room)

pub write_entries-requires-clause-few : goal.write_entries-requires-clause-few
write_entries-requires-clause-few g c =
    let start = cursors_first g.K.Kind.meaning (rules_in g.K.Kind.meaning c.args.plan.now) c.args.plan.now.bits.now c.args.cursors.now c.requires.starts in
    omega (arith, c.requires.room, few_entries g.K.Kind.meaning c.args.plan.now (omega (arith, ap length start, length-cursors_at g.K.Kind.meaning (rules_in g.K.Kind.meaning c.args.plan.now) c.args.plan.now.bits.now 0)))

pub loop-line-preserved : goal.loop-line-preserved
loop-line-preserved g c =
    record {
      cursors = c.write_entries.ensures.cursors ∙ cursors_more g.K.Kind.meaning (rules_in g.K.Kind.meaning c.args.plan.now) c.args.plan.now.bits.now c.loop-line.line (omega (arith, length-rules_in g.K.Kind.meaning c.args.plan.now)) c.loop-line.invariant.cursors (the_cells g.K.Kind.meaning c.args.plan.now c.loop-line.line);
      written = written_more g.K.Kind.meaning (rules_in g.K.Kind.meaning c.args.plan.now) c.args.plan.now.bits.now c.loop-line.line (omega (arith, length-rules_in g.K.Kind.meaning c.args.plan.now)) c.loop-line.entries c.write_entries.new.entries c.loop-line.invariant.cursors (the_cells g.K.Kind.meaning c.args.plan.now c.loop-line.line) (c.loop-line.auto.entries ∙ c.requires.room) c.loop-line.invariant.written c.write_entries.ensures.entries;
    }

pub returns : goal.returns
returns g c = all_written g.K.Kind.meaning (rules_in g.K.Kind.meaning c.args.plan.now) c.args.plan.now.bits.now c.loop-line.line c.loop-line.entries (omega (arith, length-rules_in g.K.Kind.meaning c.args.plan.now)) (c.loop-line.auto.entries ∙ c.requires.room) c.loop-line.invariant.written
