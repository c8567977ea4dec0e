-- Blocks: which lines may match in each cell.
--     admits_line   whether a line is in a cell's block
--     block         the block of a cell: in rising order, every filled line whose rule admits the values that the cell gives to the bits
--     cells_naming  the cells whose blocks name a line, in rising order
--     blocks        the blocks of all cells, in cell order
--     sizes         their lengths
--     table_size    the places that a table takes: a start for each cell, one for the end, and the entries
--     Fits          a table fits an area of so many places
-- Assumes nothing.
use Rattle.std.specs.Prelude.{ℕ, ◌+◌, ◌^◌, ◌≤◌, Bool, false, List, map, length, Some, None, sum, filter, Option, slice_index_or}
use Rattle.std.specs.List.{range_with_len}
use Rattle.kinds.specs.Meaning.{Meaning}
use Rattle.kinds.specs.Values.{valued}

module _ {Header Rule Row : Type 0} (k : Meaning Header Rule Row) where
  -- whether a line is filled and its rule admits the cell
  abbrev pub admits_line : Option Rule → List ℕ → ℕ → Bool
  admits_line None bits cell = false
  admits_line (Some r) bits cell = k.admits r (valued bits cell)

  module _ (rules : List (Option Rule)) (bits : List ℕ) where
    abbrev pub block : ℕ → List ℕ
    block cell = filter (λ line. admits_line (slice_index_or rules line None) bits cell) (range_with_len 0 (length rules))

    abbrev pub cells_naming : ℕ → List ℕ
    cells_naming line = filter (admits_line (slice_index_or rules line None) bits) (range_with_len 0 (2 ^ length bits))

    abbrev pub blocks : List (List ℕ)
    blocks = map block (range_with_len 0 (2 ^ length bits))

    abbrev pub sizes : List ℕ
    sizes = map length blocks

    abbrev pub table_size : ℕ
    table_size = 2 ^ length bits + 1 + sum sizes

    abbrev pub Fits : ℕ → Type 0
    Fits room = table_size ≤ room
