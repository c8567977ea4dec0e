use Rattle.std.proofs.Common.{◌≡◌, filter, length}
use Rattle.kinds.specs.Spans.{in_both}
use Rattle.kinds.proofs.cells.CellsIterator.next.Given as goal

abbrev pub invariant-loop-cell : goal.invariant-loop-cell
invariant-loop-cell l = filter (in_both l.self-inside.first l.self-inside.second) l.self-inside.masked ≡ filter (in_both l.initial.self-inside.first l.initial.self-inside.second) l.initial.self-inside.masked

abbrev pub decreases-loop-cell : goal.decreases-loop-cell
decreases-loop-cell l = length l.self-inside.masked
