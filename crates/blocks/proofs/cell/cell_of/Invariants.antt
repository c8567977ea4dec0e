use Rattle.std.proofs.Common.{◌≡◌, ◌+◌, ◌*◌, ◌^◌, drop, length}
use Rattle.blocks.specs.Cells.{cell_of}
use Rattle.blocks.proofs.cell.cell_of.Given as goal

abbrev pub invariant-loop-bit : goal.invariant-loop-bit
invariant-loop-bit g l = l.cell * 2 ^ length (drop l.bit-index l.bits) + cell_of g.K.Kind.meaning (drop l.bit-index l.bits) l.header ≡ cell_of g.K.Kind.meaning l.bits l.header
