-- The records of a job, one behind the other: the body's length in two bytes, the kind in two bytes, and the body.
--     little_endian   the number that some bytes from a place on write, the least significant first
--     is_cut_off      whether the job ends inside the record that begins at a place
--     IsCutOff        that it does, told with that place
--     Is              the record that begins at a place, and where it ends
--     Reads           what a reader at a place of the job gives, and the place where it goes on
--     Walks           what a reader gives in order from a place on, up to another: each record begins where the one before it ended
--     bytes_of        the bytes of the job that a record takes up
--     PartsTile       laid end to end, the records of a job are the job
-- Assumes nothing.
use Rattle.std.specs.Prelude.{◌≡◌, ℕ, zero, suc, ◌+◌, ◌*◌, ◌≤◌, ◌<◌, Bool, true, ◌||◌, List, [], ◌∷◌, ◌++◌, length, drop, Some, None, Ok, Err, Option, Result, nat_lt, slice_index, slice_range, flat_map}
use Rattle.records.specs.declared.record.Record.{Record}
use Rattle.records.specs.declared.record.CutOff.{CutOff}

abbrev pub little_endian : List ℕ → ℕ → ℕ → ℕ
little_endian bytes at zero = 0
little_endian bytes at (suc count) = slice_index bytes at + 256 * little_endian bytes (at + 1) count

module _ (job : List ℕ) where
  abbrev pub is_cut_off : ℕ → Bool
  is_cut_off at = nat_lt (length job) (at + 4) || nat_lt (length job) (at + 4 + little_endian job at 2)

  abbrev pub IsCutOff : ℕ → CutOff → Type 0
  IsCutOff at cut = (is_cut_off at ≡ true) × (cut.offset ≡ at)

  -- the record that begins at a place, and where it ends
  pub record Is (at : ℕ) (this : Record) (end : ℕ) : Type 0 where
    pub offset : this.offset ≡ at
    pub long : length this.body.now ≡ little_endian job at 2
    pub kind : this.kind ≡ little_endian job (at + 2) 2
    pub body : this.body.now ≡ slice_range job (at + 4) end
    pub ends : end ≡ at + 4 + length this.body.now
    pub inside : end ≤ length job

  abbrev pub Reads : ℕ → Option (Result Record CutOff) → ℕ → Type 0
  Reads at None next = (length job ≤ at) × (next ≡ at)
  Reads at (Some (Ok this)) next = Is at this next
  Reads at (Some (Err cut)) next = (at < length job) × IsCutOff at cut × (next ≡ length job)

  -- what a reader gives in order from a place on, up to another: each record begins where the one before it ended
  abbrev pub Walks : ℕ → List (Result Record CutOff) → ℕ → Type 0
  Walks at [] end = end ≡ at
  Walks at (read ∷ reads) end = (next : ℕ) × Reads at (Some read) next × Walks next reads end

  -- a record's head and its body, as they stand in the job; where it is cut off, the rest of the job
  abbrev pub bytes_of : Result Record CutOff → List ℕ
  bytes_of (Ok this) = slice_range job this.offset (this.offset + 4) ++ this.body.now
  bytes_of (Err cut) = drop cut.offset job

-- laid end to end they are the job
abbrev pub PartsTile : Type 0
PartsTile = (job : List ℕ) (reads : List (Result Record CutOff)) → Walks job 0 reads (length job) → flat_map (bytes_of job) reads ≡ job
