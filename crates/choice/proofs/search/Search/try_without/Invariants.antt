use Rattle.std.proofs.Common.{◌≡◌, map}
use Rattle.blocks.specs.Tallies.{SameCells}
use Rattle.bits.specs.Sets.{exchanged}
use Rattle.choice.specs.Evolution.{unchosen}
use Rattle.choice.specs.Searches.{offer_in}
use Rattle.choice.specs.Tries.{tries_of}
use Rattle.choice.proofs.Tries.{row_from}
use Rattle.choice.proofs.search.Search.try_without.Given as goal

abbrev pub invariant-loop-joining : goal.invariant-loop-joining
invariant-loop-joining g l = record {
  answer : tries_of (offer_in g.K.Kind.meaning g.J.Judge.cost l.self) l.present.cost (map (exchanged l.present.bits l.out) (unchosen g.K.Kind.meaning.width l.present.bits)) l.tries ≡ tries_of (offer_in g.K.Kind.meaning g.J.Judge.cost l.self) l.present.cost (row_from l.present.bits l.out g.K.Kind.meaning.width l.joining) l.left;
  kept : SameCells l.initial.tally l.tally;
}
