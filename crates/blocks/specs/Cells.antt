-- Cells: the values that the chosen bits can have together.
--     cell_of       the number made of a header's values at the chosen bits
-- Assumes nothing.
use Rattle.std.specs.Prelude.{ℕ, List}
use Rattle.kinds.specs.Meaning.{Meaning}
use Rattle.kinds.specs.Values.{number_of}

module _ {Header Rule Row : Type 0} (k : Meaning Header Rule Row) where
  abbrev pub cell_of : List ℕ → Header → ℕ
  cell_of bits h = number_of (k.bit h) bits
