-- The cells that are left of those that a rule admits: what the type `Cells` tells its callers.
--     cells_in   the masked numbers that lie in both spans
-- Assumes nothing.
use Rattle.std.specs.Prelude.{ℕ, List, filter}
use Rattle.kinds.specs.Spans.{in_both}
use Rattle.kinds.specs.declared.cells.Cells.TheInside.{Inside}

abbrev pub cells_in : Inside → List ℕ
cells_in c = filter (in_both c.first c.second) c.masked
