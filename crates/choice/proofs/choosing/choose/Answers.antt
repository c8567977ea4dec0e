use Rattle.std.proofs.Common.{rules, arith, ◌≡◌, ◌^◌, ◌≤◌, [], length}
use Rattle.kinds.specs.Lines.{rules_of}
use Rattle.choice.proofs.Whole.{offer_fits, only_choice, bits_reached, way_reached, few_tries, settled_unbettered, grown_room}
use Rattle.choice.proofs.choosing.choose.Goals as goal

pub evolve-requires-clause-room : goal.evolve-requires-clause-room
evolve-requires-clause-room g c =
    let room : 2 ^ c.args.limits.most_bits ≤ length c.args.tally.now = search rules in
    let none : c.in_ok-none.none.bits ≡ [] = search rules in
    let same : length c.grow-grown.new.tally.cells.now ≡ length c.args.tally.now = search rules in
    grown_room g.K.Kind.meaning (rules_of g.K.Kind.meaning c.args.lines.now) c.args.room (g.J.Judge.cost c.args.judge.now) c.args.limits.most_bits _ c.in_ok-none.none.bits c.grow-grown.result.bits
    (offer_fits g.K.Kind.meaning (rules_of g.K.Kind.meaning c.args.lines.now) c.args.room (g.J.Judge.cost c.args.judge.now) [] c.in_ok-none.none c.offer.result c.in_ok-none.ensures.ok_part (search rules))
    none c.grow-grown.ensures.grown (omega (arith, room, same))

pub returns-clause-only : goal.returns-clause-only
returns-clause-only g c = only_choice g.K.Kind.meaning (rules_of g.K.Kind.meaning c.args.lines.now) c.args.room (g.J.Judge.cost c.args.judge.now) c.args.limits c.evolve.result (search rules)

pub returns-clause-reached : goal.returns-clause-reached
returns-clause-reached g c =
    bits_reached g.K.Kind.meaning (rules_of g.K.Kind.meaning c.args.lines.now) c.args.room (g.J.Judge.cost c.args.judge.now) c.args.limits c.evolve.result
    (offer_fits g.K.Kind.meaning (rules_of g.K.Kind.meaning c.args.lines.now) c.args.room (g.J.Judge.cost c.args.judge.now) [] c.in_ok-none.none c.offer.result c.in_ok-none.ensures.ok_part (search rules))
    (search rules)

pub returns-clause-way : goal.returns-clause-way
returns-clause-way g c =
    way_reached g.K.Kind.meaning (rules_of g.K.Kind.meaning c.args.lines.now) c.args.room (g.J.Judge.cost c.args.judge.now) c.args.limits c.evolve.result
    (offer_fits g.K.Kind.meaning (rules_of g.K.Kind.meaning c.args.lines.now) c.args.room (g.J.Judge.cost c.args.judge.now) [] c.in_ok-none.none c.offer.result c.in_ok-none.ensures.ok_part (search rules))
    (search rules)

pub returns-clause-tries : goal.returns-clause-tries
returns-clause-tries g c = few_tries g.K.Kind.meaning (rules_of g.K.Kind.meaning c.args.lines.now) c.args.room (g.J.Judge.cost c.args.judge.now) c.args.limits c.evolve.result (search rules)

pub returns-clause-unbettered : goal.returns-clause-unbettered
returns-clause-unbettered g c = settled_unbettered g.K.Kind.meaning (rules_of g.K.Kind.meaning c.args.lines.now) c.args.room (g.J.Judge.cost c.args.judge.now) c.args.limits c.evolve.result (search rules)
