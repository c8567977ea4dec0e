-- Raising the numbers of some cells. No public contract names these words.
--     raised       each of these numbers is one more
--     MayRaise     each of the cells has a number, and it stays below 2 ^ 32
--     room_left    what is left of the room behind so many entries, or none where it is too small
-- Assumes nothing.
use Rattle.std.specs.Prelude.{ℕ, ◌+◌, ◌-◌, ◌^◌, ◌<◌, if◌then◌else◌, List, [], ◌∷◌, length, Some, None, Option, nat_lt, slice_index, slice_set, ⊤}

abbrev pub raised : List ℕ → List ℕ → List ℕ
raised [] numbers = numbers
raised (cell ∷ cells) numbers = raised cells (slice_set numbers cell (slice_index numbers cell + 1))

abbrev pub MayRaise : List ℕ → List ℕ → Type 0
MayRaise [] numbers = ⊤
MayRaise (cell ∷ cells) numbers =
    let more = slice_index numbers cell + 1 in (cell < length numbers) × (more < 2 ^ 32) × MayRaise cells (slice_set numbers cell more)

abbrev pub room_left : (room entries : ℕ) → Option ℕ
room_left room entries = if nat_lt room entries then None else Some (room - entries)
