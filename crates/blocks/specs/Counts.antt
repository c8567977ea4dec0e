-- What counting refuses, checked in this order.
--     length_checks   before anything is counted: the lines are few enough, and the tally has a number for each cell
--     table_checks    these, and then whether the table of some lines fits
--     began           whether a call that answered so began to count
-- Assumes nothing.
use Rattle.std.specs.Prelude.{ℕ, ◌^◌, Bool, true, false, List, [], ◌∷◌, ◌++◌, length, Ok, Err, Result, nat_lt}
use Rattle.kinds.specs.Meaning.{Meaning}
use Rattle.kinds.specs.Lines.{rules_of}
use Rattle.kinds.specs.declared.line.Line.{Line}
use Rattle.blocks.specs.Blocks.{table_size}
use Rattle.blocks.specs.declared.refusal.Refusal.{Refusal}
use Rattle.blocks.specs.declared.refusal.Refusal.TheVariants.{TooManyLines, ShortTally, NoRoom}

-- by the number of lines, of cells and of numbers in the tally
abbrev pub length_checks : (lines cells tally : ℕ) → List (Bool × Refusal)
length_checks lines cells tally = (nat_lt 16384 lines, TooManyLines) ∷ (nat_lt tally cells, ShortTally) ∷ []

-- and by the room for the table
abbrev pub table_checks : {Header Rule Row : Type 0} → Meaning Header Rule Row → List (Line Row) → List ℕ → (tally room : ℕ) → List (Bool × Refusal)
table_checks k lines bits tally room = length_checks (length lines) (2 ^ length bits) tally ++ ((nat_lt room (table_size k (rules_of k lines) bits), NoRoom) ∷ [])

abbrev pub began : {A : Type 0} → Result A Refusal → Bool
began (Ok x) = true
began (Err TooManyLines) = false
began (Err ShortTally) = false
began (Err NoRoom) = true
