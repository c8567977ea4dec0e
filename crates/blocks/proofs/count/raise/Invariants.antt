use Rattle.std.proofs.Common.{◌≡◌, ◌+◌, length}
use Rattle.blocks.specs.Raising.{raised, MayRaise}
use Rattle.blocks.proofs.count.raise.Given as goal

abbrev pub invariant-loop-cell : goal.invariant-loop-cell
invariant-loop-cell g l = record {
  may : MayRaise l.cell-iterator l.numbers;
  left : l.left + length l.fn.cells ≡ l.room + length l.cell-iterator;
  raised : raised l.cell-iterator l.numbers ≡ raised l.fn.cells l.initial.numbers;
}
