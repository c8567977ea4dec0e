use Rattle.std.proofs.Common.{◌≡◌, length}
use Rattle.table.specs.Calls.{zeros}
use Rattle.history.specs.Histories.{moment}
use Rattle.history.proofs.Carried.{SoFar}
use Rattle.history.proofs.carrying.carry_out.Given as goal

abbrev pub invariant-loop-turn : goal.invariant-loop-turn
invariant-loop-turn g l = record {
  so_far : SoFar g.K.Kind.meaning g.J.Judge.cost (length l.initial.tally) l.initial.turns (moment l.initial.table.shape l.initial.lines l.initial.area) l.turn-index l.turns (moment l.table.shape l.lines l.area);
  len : length l.tally ≡ length l.initial.tally;
  zero : l.initial.tally ≡ zeros l.initial.tally → l.tally ≡ zeros l.initial.tally;
}
