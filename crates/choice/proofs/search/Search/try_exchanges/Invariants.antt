use Rattle.std.proofs.Common.{◌≡◌, ℕ, true}
use Rattle.bits.specs.Sets.{member}
use Rattle.blocks.specs.Tallies.{SameCells}
use Rattle.choice.specs.Searches.{offer_in}
use Rattle.choice.specs.Tries.{tries_of}
use Rattle.choice.proofs.Tries.{rows_of}
use Rattle.choice.proofs.search.Search.try_exchanges.Given as goal

abbrev pub invariant-loop-out : goal.invariant-loop-out
invariant-loop-out g l = record {
  chosen : (b : ℕ) → member b l.out-iterator ≡ true → member b l.present.bits ≡ true;
  answer : tries_of (offer_in g.K.Kind.meaning g.J.Judge.cost l.self) l.present.cost (rows_of l.present.bits g.K.Kind.meaning.width l.present.bits) l.tries ≡ tries_of (offer_in g.K.Kind.meaning g.J.Judge.cost l.self) l.present.cost (rows_of l.present.bits g.K.Kind.meaning.width l.out-iterator) l.left;
  kept : SameCells l.initial.tally l.tally;
}
