use Rattle.std.proofs.Common.{◌≡◌, length}
use Rattle.blocks.specs.Raising.{raised}
use Rattle.layout.specs.Placing.{placed, FindPlaces}
use Rattle.layout.proofs.entries.write_masked.Given as goal

abbrev pub invariant-loop-cell : goal.invariant-loop-cell
invariant-loop-cell l = record {
  places : FindPlaces (length l.entries) l.cell-iterator l.cursors;
  entries : placed l.line l.cell-iterator l.cursors l.entries ≡ placed l.line l.fn.cells l.initial.cursors l.initial.entries;
  cursors : raised l.cell-iterator l.cursors ≡ raised l.fn.cells l.initial.cursors;
}
