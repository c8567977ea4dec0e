-- Writing a line into the blocks of some cells, each at its cursor. No public contract names these words.
--     placed       the entries afterwards, where each cursor moves on behind the entry that it tells
--     FindPlaces   each of the cells has a cursor, which tells one of so many places
-- Assumes nothing.
use Rattle.std.specs.Prelude.{ℕ, ◌+◌, ◌<◌, List, [], ◌∷◌, length, slice_index, slice_set, ⊤}

module _ (line : ℕ) where
  abbrev pub placed : (cells cursors entries : List ℕ) → List ℕ
  placed [] cursors entries = entries
  placed (cell ∷ cells) cursors entries =
      let cursor = slice_index cursors cell in placed cells (slice_set cursors cell (cursor + 1)) (slice_set entries cursor line)

module _ (places : ℕ) where
  abbrev pub FindPlaces : (cells cursors : List ℕ) → Type 0
  FindPlaces [] cursors = ⊤
  FindPlaces (cell ∷ cells) cursors =
      let cursor = slice_index cursors cell in (cell < length cursors) × (cursor < places) × FindPlaces cells (slice_set cursors cell (cursor + 1))
