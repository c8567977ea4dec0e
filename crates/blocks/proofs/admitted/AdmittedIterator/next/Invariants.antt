use Rattle.std.proofs.Common.{◌≡◌, filter, length}
use Rattle.blocks.specs.Admitted.{passes}
use Rattle.blocks.proofs.admitted.AdmittedIterator.next.Given as goal

abbrev pub invariant-loop-cell : goal.invariant-loop-cell
invariant-loop-cell g l = filter (passes g.K.Kind.meaning l.self-inside.asked l.self-inside.bits.now) l.self-inside.cells ≡ filter (passes g.K.Kind.meaning l.initial.self-inside.asked l.initial.self-inside.bits.now) l.initial.self-inside.cells

abbrev pub decreases-loop-cell : goal.decreases-loop-cell
decreases-loop-cell g l = length l.self-inside.cells
