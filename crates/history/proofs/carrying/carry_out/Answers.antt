use Rattle.std.proofs.Common.{rules, length, get_or, refl}
use Rattle.history.specs.Histories.{moment}
use Rattle.history.proofs.Carried.{none_taken, one_taken, all_taken}
use Rattle.history.proofs.carrying.carry_out.Goals as goal

pub loop-turn-init : goal.loop-turn-init
loop-turn-init g c = record {
  so_far = none_taken g.K.Kind.meaning g.J.Judge.cost (length c.args.tally.now) c.args.turns.now (moment c.args.table.now.shape c.args.lines.now c.args.area.now);
  len = refl;
  zero = λ e. e;
}

pub loop-turn-preserved : goal.loop-turn-preserved
loop-turn-preserved g c =
    let so_far = c.loop-turn.invariant in
    record {
      so_far = one_taken g.K.Kind.meaning g.J.Judge.cost (length c.args.tally.now) c.args.turns.now (moment c.args.table.now.shape c.args.lines.now c.args.area.now)
          (moment c.loop-turn.table.shape c.loop-turn.lines c.loop-turn.area) (moment c.take_turn-answer.new.table.shape c.take_turn-answer.new.lines c.take_turn-answer.new.area)
          c.loop-turn.turns _ c.loop-turn.turn-index (length c.loop-turn.tally) (get_or c.loop-turn.turns c.loop-turn.turn-index c.turn-item.result) c.take_turn-answer.result
          so_far.len so_far.so_far (search rules) (search rules) (search rules) c.take_turn-answer.ensures.step;
      len = search rules;
      zero = search rules;
    }

pub returns-clause-lived : goal.returns-clause-lived
returns-clause-lived g c = all_taken g.K.Kind.meaning g.J.Judge.cost (length c.args.tally.now) c.args.turns.now (moment c.args.table.now.shape c.args.lines.now c.args.area.now) (moment c.loop-turn.table.shape c.loop-turn.lines c.loop-turn.area) c.loop-turn.turns c.loop-turn.turn-index (search rules) c.loop-turn.invariant.so_far
