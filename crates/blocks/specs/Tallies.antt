-- What counting leaves of a tally as it was. Assumes nothing.
use Rattle.std.specs.Prelude.{◌≡◌, length}
use Rattle.blocks.specs.declared.tally.Tally.{Tally}

-- the same lent slice, whatever numbers it holds now
pub record SameCells (old new : Tally) : Type 0 where
  pub len : length new.cells.now ≡ length old.cells.now
  pub name : new.cells.ghost_name ≡ old.cells.ghost_name
