use Rattle.std.proofs.Common.{rules, ◌^◌, ap, arith}
use Rattle.choice.proofs.Evolves.{few_left, takes}
use Rattle.choice.proofs.search.Search.evolve.Goals as goal

pub loop-next-smaller : goal.loop-next-smaller
loop-next-smaller g c =
    (takes g.K.Kind.meaning g.J.Judge.cost c.args.self.now c.args.start.bits c.args.tries c.loop-next.present c.loop-next.left c.loop-next.invariant.way c.loop-next.invariant.costed c.in-Break-Taken.next c.in-Break-Taken.rest (rw c.in-Break-Taken.field-0-is at c.in-Break-Taken.ensures.answer)).fewer

pub loop-next-preserved : goal.loop-next-preserved
loop-next-preserved g c =
    let turn = takes g.K.Kind.meaning g.J.Judge.cost c.args.self.now c.args.start.bits c.args.tries c.loop-next.present c.loop-next.left c.loop-next.invariant.way c.loop-next.invariant.costed c.in-Break-Taken.next c.in-Break-Taken.rest (rw c.in-Break-Taken.field-0-is at c.in-Break-Taken.ensures.answer) in
    record {
      way = turn.way;
      costed = turn.costed;
      room = omega (arith, ap (λ n. 2 ^ n) turn.same, c.try_exchanges.ensures.kept.len, c.loop-next.invariant.room);
      kept = search rules;
    }

pub overflow_sub-result : goal.overflow_sub-result
overflow_sub-result g c = few_left g.K.Kind.meaning g.J.Judge.cost c.args.self.now c.args.start.bits c.args.tries c.loop-next.present c.loop-next.left c.loop-next.invariant.way c.loop-next.invariant.costed c.in-Continue.rest c.in-Continue.ensures.answer
