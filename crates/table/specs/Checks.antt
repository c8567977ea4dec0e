-- What the calls on books and tables refuse: lists of checks, made in order, each with its refusal.
--     verdict         the refusal of the first check that fails, or none
-- Read off the rules of the lines:
--     put_checks      a put: there is such a line
--     strike_checks   a strike: and it is filled
--     room_checks     the table of some rules for some bits: the tally has a number for each cell, and the area has room
--     choice_checks   a choice: no more is asked than may be, the tally has a number for each cell of the most bits, and the table of no bits has room
-- And off lengths:
--     count_checks    a book of so many lines may be opened
--     lines_checks    lines are as many as were opened
--     memory_checks   and the area is as long as it was
--     area_checks     the area alone
-- Assumes nothing.
use Rattle.std.specs.Prelude.{ℕ, ◌^◌, Bool, not, ◌||◌, List, [], ◌∷◌, ◌++◌, length, None, Option, Result, is_none, ◌==◌, nat_lt, nat_le, slice_index_or}
use Rattle.kinds.specs.Checks.{checked}
use Rattle.kinds.specs.Meaning.{Meaning}
use Rattle.blocks.specs.Blocks.{table_size}
use Rattle.choice.specs.Checks.{asks_too_much}
use Rattle.choice.specs.declared.limits.Limits.{Limits}
use Rattle.table.specs.declared.refusal.Refusal.{Refusal}
use Rattle.table.specs.declared.refusal.Refusal.TheVariants.{LineCount, NoSuchLine, EmptyLine, TooMuchAsked, NoRoom, ShortTally, OtherMemory}
use Rattle.table.specs.declared.shape.Shape.{Shape}

abbrev pub verdict : List (Bool × Refusal) → Result (Unit {0}) Refusal
verdict checks = checked checks tt

abbrev pub count_checks : ℕ → List (Bool × Refusal)
count_checks lines = (lines == 0 || nat_lt 16384 lines, LineCount) ∷ []

abbrev pub lines_checks : (opened lines : ℕ) → List (Bool × Refusal)
lines_checks opened lines = (not (lines == opened), OtherMemory) ∷ []

abbrev pub memory_checks : Shape → (lines area : ℕ) → List (Bool × Refusal)
memory_checks table lines area = (not (lines == table.lines) || not (area == table.area), OtherMemory) ∷ []

abbrev pub area_checks : Shape → (area : ℕ) → List (Bool × Refusal)
area_checks table area = (not (area == table.area), OtherMemory) ∷ []

module _ {Rule : Type 0} (rules : List (Option Rule)) where
  abbrev pub put_checks : ℕ → List (Bool × Refusal)
  put_checks line = (nat_le (length rules) line, NoSuchLine) ∷ []

  abbrev pub strike_checks : ℕ → List (Bool × Refusal)
  strike_checks line = put_checks line ++ ((is_none (slice_index_or rules line None), EmptyLine) ∷ [])

module _ {Header Rule Row : Type 0} (k : Meaning Header Rule Row) (rules : List (Option Rule)) where
  abbrev pub room_checks : List ℕ → (tally room : ℕ) → List (Bool × Refusal)
  room_checks bits tally room = (nat_lt tally (2 ^ length bits), ShortTally) ∷ (nat_lt room (table_size k rules bits), NoRoom) ∷ []

  abbrev pub choice_checks : Limits → (tally room : ℕ) → List (Bool × Refusal)
  choice_checks limits tally room = (asks_too_much k.width limits, TooMuchAsked) ∷ (nat_lt tally (2 ^ limits.most_bits), ShortTally) ∷ (nat_lt room (table_size k rules []), NoRoom) ∷ []
