-- What a choice refuses, checked in this order.
--     asks_too_much   whether more is asked than may be, for headers of so many bits
--     choice_checks   this, what is checked before a count, and then whether the table of no bits fits
--     allowed         no check fails, or the refusal of the first that does
--     began           whether a choice that was answered so began to count
-- Assumes nothing.
use Rattle.std.specs.Prelude.{ℕ, ◌^◌, Bool, true, false, ◌||◌, List, [], ◌∷◌, ◌++◌, map, length, Ok, Err, Result, nat_lt}
use Rattle.kinds.specs.Checks.{checked}
use Rattle.kinds.specs.Meaning.{Meaning}
use Rattle.kinds.specs.Lines.{rules_of}
use Rattle.kinds.specs.declared.line.Line.{Line}
use Rattle.blocks.specs.Blocks.{table_size}
use Rattle.blocks.specs.Counts.{length_checks, began as table_began}
use Rattle.blocks.specs.declared.refusal.Refusal.TheVariants.{NoRoom}
use Rattle.choice.specs.declared.limits.Limits.{Limits}
use Rattle.choice.specs.declared.refusal.Refusal.{Refusal}
use Rattle.choice.specs.declared.refusal.Refusal.TheVariants.{TooMuchAsked, Table}

abbrev pub asks_too_much : ℕ → Limits → Bool
asks_too_much width limits = nat_lt 12 limits.most_bits || nat_lt width limits.most_bits || nat_lt 1000000 limits.most_tries

-- the tally needs a number for each cell of the most bits
abbrev pub choice_checks : {Header Rule Row : Type 0} → Meaning Header Rule Row → List (Line Row) → Limits → (tally room : ℕ) → List (Bool × Refusal)
choice_checks k lines limits tally room =
    (asks_too_much k.width limits, TooMuchAsked)
    ∷ map (λ check. (check.0, Table check.1)) (length_checks (length lines) (2 ^ limits.most_bits) tally ++ ((nat_lt room (table_size k (rules_of k lines) []), NoRoom) ∷ []))

abbrev pub allowed : {Header Rule Row : Type 0} → Meaning Header Rule Row → List (Line Row) → Limits → (tally room : ℕ) → Result (Unit {0}) Refusal
allowed k lines limits tally room = checked (choice_checks k lines limits tally room) tt

abbrev pub began : {A : Type 0} → Result A Refusal → Bool
began (Ok x) = true
began (Err TooMuchAsked) = false
began (Err (Table refusal)) = table_began {A = Unit {0}} (Err refusal)
