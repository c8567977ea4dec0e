use Rattle.std.proofs.Common.{ℕ, ◌-◌, List, length}
use Rattle.blocks.specs.Tallies.{SameCells}
use Rattle.choice.specs.Searches.{Costed, Grows}
use Rattle.choice.proofs.search.Search.grow.Given as goal

abbrev pub invariant-loop-tally : goal.invariant-loop-tally
invariant-loop-tally g l = record {
  grown : (end : List ℕ) → Grows g.K.Kind.meaning g.J.Judge.cost l.self l.most l.present.bits end → Grows g.K.Kind.meaning g.J.Judge.cost l.self l.most l.initial.present.bits end;
  costed : Costed g.K.Kind.meaning g.J.Judge.cost l.self l.present;
  kept : SameCells l.initial.tally l.tally;
}

abbrev pub decreases-loop-tally : goal.decreases-loop-tally
decreases-loop-tally g l = l.most - length l.present.bits
