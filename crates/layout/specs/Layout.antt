-- How a table lies in its area.
--     starts   how many entries stand before each block, and last how many there are
--     laid     the whole area: the starts, the blocks in cell order, and zeros to its end
-- Assumes nothing.
use Rattle.std.specs.Prelude.{ℕ, ◌+◌, ◌-◌, List, ◌++◌, map, length, take, sum, replicate, Option}
use Rattle.std.specs.List.{flat_map, range_with_len}
use Rattle.kinds.specs.Meaning.{Meaning}
use Rattle.blocks.specs.Blocks.{blocks, sizes, table_size}

-- by the sizes of all blocks
abbrev pub starts : List ℕ → List ℕ
starts sizes = map (λ block. sum (take block sizes)) (range_with_len 0 (length sizes + 1))

abbrev pub laid : {Header Rule Row : Type 0} → Meaning Header Rule Row → List (Option Rule) → List ℕ → (room : ℕ) → List ℕ
laid k rules bits room = starts (sizes k rules bits) ++ flat_map (λ entries. entries) (blocks k rules bits) ++ replicate (room - table_size k rules bits) 0
