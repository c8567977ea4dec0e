-- Lines as they stand, or as they would stand with one of them replaced. Assumes nothing.
use Rattle.std.specs.Prelude.{List, Some, None, Option, slice_set}
use Rattle.kinds.specs.declared.line.Line.{Line}
use Rattle.blocks.specs.declared.change.Change.{Change}

abbrev pub changed : {Row : Type 0} → Option (Change Row) → List (Line Row) → List (Line Row)
changed None lines = lines
changed (Some change) lines = slice_set lines change.place change.line
