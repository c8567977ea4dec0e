use Rattle.std.proofs.Common.{◌≡◌, take}
use Rattle.judges.specs.Costs.{capped_squares}
use Rattle.judges.proofs.squares.SquaresJudge.cost_of.Given as goal

abbrev pub invariant-loop-size : goal.invariant-loop-size
invariant-loop-size l = l.sum ≡ capped_squares (take l.size-index l.sizes)
