use Rattle.std.proofs.Common.{◌^◌, ◌≤◌, length}
use Rattle.blocks.specs.Tallies.{SameCells}
use Rattle.choice.specs.Searches.{Costed, OnTheWay}
use Rattle.choice.proofs.search.Search.evolve.Given as goal

abbrev pub invariant-loop-next : goal.invariant-loop-next
invariant-loop-next g l = record {
  way : OnTheWay g.K.Kind.meaning g.J.Judge.cost l.self l.initial.present.bits l.tries l.present.bits l.left;
  costed : Costed g.K.Kind.meaning g.J.Judge.cost l.self l.present;
  room : 2 ^ length l.present.bits ≤ length l.tally.cells.now;
  kept : SameCells l.initial.tally l.tally;
}

abbrev pub decreases-loop-next : goal.decreases-loop-next
decreases-loop-next g l = l.left
