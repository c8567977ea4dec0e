-- The cells that are left of those that are admitted bit by bit: what the type `Masked` promises, which its callers do not see.
--     cells_left   the free digits put together in every way that is left, and the other digits as they have to be
--     IsSound      least cell, free digits and gap belong to one number of cells
-- Assumes nothing.
use Rattle.std.specs.Prelude.{ℕ, ◌+◌, ◌<◌, List, map}
use Rattle.kinds.specs.Parts.{parts_left, AreDigits, IsCellCount}
use Rattle.kinds.specs.declared.masked.Masked.TheInside.{Inside}

abbrev pub cells_left : Inside → List ℕ
cells_left a = map (λ digits. a.least + digits) (parts_left (a.free + a.gap) a.free a.next)

pub record IsSound (a : Inside) : Type 0 where
  pub cells : IsCellCount (a.free + a.gap)
  pub below : a.least < a.gap
  pub digits : AreDigits a.free a.next
