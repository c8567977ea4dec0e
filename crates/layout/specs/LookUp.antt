-- Looking into an area of any content.
--     block_in      the entries that the starts give to a cell, unless a start lies above the next or the entries past the end
--     Hands         a part that is handed out holds these entries
--     try_entry     the answer of one entry, or that of the entries behind it
--     walked        the answer of trying entries in order: the first whose line matches, and how many were tried
--     looked_up     the answer for a header: its cell's entries, tried in order
--     Misses        an entry names a filled line whose rule does not match
--     WalksTo       what an answer means for entries of any content: all entries before the answered one miss
--     Walks         the same, also where an entry is told as spoilt
--     Looks         a look-up walks what the area gives to the header's cell
--     FindsLowest   what a look-up owes in a laid area (Found)
-- Assumes nothing.
use Rattle.std.specs.Prelude.{◌≡◌, ℕ, ◌+◌, ◌-◌, ◌^◌, ◌≤◌, false, if◌then◌else◌, List, [], ◌∷◌, ◌++◌, length, take, drop, Some, None, Ok, Err, Option, Result, nat_lt, slice_index, slice_index_or}
use Rattle.std.specs.Borrow.{Bor}
use Rattle.std.specs.List.{AllByRecursion}
use Rattle.kinds.specs.Meaning.{Meaning}
use Rattle.kinds.specs.Checks.{checked, ◌and_then◌, MadeOf}
use Rattle.kinds.specs.Lines.{Matches, Lowest}
use Rattle.judges.specs.Costs.{largest}
use Rattle.blocks.specs.Cells.{cell_of}
use Rattle.blocks.specs.Blocks.{block, sizes}
use Rattle.layout.specs.declared.spoilt.Spoilt.{Spoilt}
use Rattle.layout.specs.declared.spoilt.Spoilt.TheVariants.{Bounds, Entry}

-- by the number of chosen bits, the area and the cell
abbrev pub block_in : ℕ → List ℕ → ℕ → Result (List ℕ) Spoilt
block_in bits area cell =
    let from = slice_index area cell in
    let to = slice_index area (cell + 1) in
    let base = 2 ^ bits + 1 in
    checked ((nat_lt to from, Bounds) ∷ (nat_lt (length area) (base + to), Bounds) ∷ []) (take (to - from) (drop (base + from) area))

-- a slice that was handed out, beside the list that it should hold
abbrev pub Hands : Result (List ℕ) Spoilt → Result (Bor (List ℕ)) Spoilt → Type 0
Hands = MadeOf (λ entries part. part.now ≡ entries)

module _ {Header Rule Row : Type 0} (k : Meaning Header Rule Row) where
  -- one entry's own answer, or that of those behind it; an entry that names no filled line spoils the walk
  abbrev pub try_entry : Option Rule → Header → Option ℕ × ℕ → Result (Option ℕ × ℕ) Spoilt → Result (Option ℕ × ℕ) Spoilt
  try_entry None h hit behind = Err Entry
  try_entry (Some r) h hit behind = if k.matches r h then Ok hit else behind

  module _ (rules : List (Option Rule)) where
    -- with so many tried before
    abbrev pub walked : Header → ℕ → List ℕ → Result (Option ℕ × ℕ) Spoilt
    walked h tried [] = Ok (None, tried)
    walked h tried (line ∷ behind) = try_entry (slice_index_or rules line None) h (Some line, tried + 1) (walked h (tried + 1) behind)

    -- an entry that names a filled line whose rule does not match
    abbrev pub Misses : Header → ℕ → Type 0
    Misses h line = (r : Rule) × (slice_index_or rules line None ≡ Some r) × (k.matches r h ≡ false)

    -- the number tried counts the answered entry; with none it is the number of all entries
    abbrev pub WalksTo : Header → List ℕ → Option ℕ → ℕ → Type 0
    WalksTo h entries None tried = AllByRecursion (Misses h) entries × (tried ≡ length entries)
    WalksTo h entries (Some line) tried = (before : List ℕ) × (behind : List ℕ) × (entries ≡ before ++ (line ∷ behind)) × AllByRecursion (Misses h) before × Matches k rules h line × (tried ≡ length before + 1)

    abbrev pub Walks : Header → List ℕ → Result (Option ℕ × ℕ) Spoilt → Type 0
    Walks h entries (Ok answer) = WalksTo h entries answer.0 answer.1
    Walks h entries (Err Entry) = (before : List ℕ) × (line : ℕ) × (behind : List ℕ) × (entries ≡ before ++ (line ∷ behind)) × AllByRecursion (Misses h) before × (slice_index_or rules line None ≡ None)
    Walks h entries (Err Bounds) = ⊥

    -- a look-up walks the entries that the area gives to the header's cell, or tells that they are bad
    abbrev pub Looks : Header → Result (List ℕ) Spoilt → Result (Option ℕ × ℕ) Spoilt → Type 0
    Looks h (Ok entries) answer = Walks h entries answer
    Looks h (Err spoilt) answer = answer ≡ Err spoilt

    module _ (bits : List ℕ) (h : Header) where
      abbrev pub looked_up : List ℕ → Result (Option ℕ × ℕ) Spoilt
      looked_up area = block_in (length bits) area (cell_of k bits h) and_then walked h 0

      pub record Found (line : Option ℕ) (tried : ℕ) : Type 0 where
        -- the lowest filled line whose rule matches, and none exactly when none matches
        pub lowest : Lowest k rules h line
        -- its place in the block, counted from 1, and all of the block with none
        pub counted : WalksTo h (block k rules bits (cell_of k bits h)) line tried
        pub few : tried ≤ largest (sizes k rules bits)

      abbrev pub FindsLowest : {F : Type 0} → Result (Option ℕ × ℕ) F → Type 0
      FindsLowest (Ok answer) = Found answer.0 answer.1
      FindsLowest (Err fault) = ⊥
