use Rattle.blocks.specs.Tallies.{SameCells}
use Rattle.choice.specs.Searches.{BestBelow}
use Rattle.choice.proofs.search.Search.best.Given as goal

abbrev pub invariant-loop-bit : goal.invariant-loop-bit
invariant-loop-bit g l = record {
  best : BestBelow g.K.Kind.meaning g.J.Judge.cost l.self l.bit l.bits l.best;
  kept : SameCells l.initial.tally l.tally;
}
