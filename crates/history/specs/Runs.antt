-- A run: a table is made over lent memory, and calls are carried out on it.
--     numbers_of    the numbers of a table that was made, and the choice made for it
--     start_of      what the table is made of
--     run_checks    what a run refuses: what measuring the lines for the area does
--     CarriedOut    turns, carried out in order
--     Makes         making the table
--     Runs          the whole run: it is a history, with an answer for each call
-- Assumes nothing.
use Rattle.std.specs.Prelude.{◌≡◌, ℕ, Bool, List, ◌++◌, map, length, Some, IfErr, Result}
use Rattle.kinds.specs.Meaning.{Meaning}
use Rattle.kinds.specs.Lines.{rules_of}
use Rattle.choice.specs.declared.choice.Choice.{Choice}
use Rattle.table.specs.Checks.{verdict, lines_checks, choice_checks}
use Rattle.table.specs.Calls.{Memory, zeros, Answers}
use Rattle.table.specs.declared.refusal.Refusal.{Refusal}
use Rattle.table.specs.declared.shape.Shape.{Shape}
use Rattle.table.specs.declared.laid.LaidTable.{LaidTable}
use Rattle.history.specs.Turns.{asked_of, lent}
use Rattle.history.specs.Histories.{Moment, moment, Lives, Start, Made, History}
use Rattle.history.specs.declared.turn.Asked.{Asked}
use Rattle.history.specs.declared.turn.Turn.{Turn}
use Rattle.history.specs.declared.turn.Answer.{Answer}

abbrev pub numbers_of : {K : Type 0} → LaidTable K × Choice → Shape × Choice
numbers_of made = (made.0.shape, made.1)

-- from one moment to another, calls were carried out in order: each turn has its answer, and asks what it did
pub record CarriedOut {Header Rule Row J : Type 0} (k : Meaning Header Rule Row) (cost : J → List ℕ → ℕ) (tally : ℕ) (before : List (Turn Rule Header J)) (first : Moment Row) (after : List (Turn Rule Header J)) (last : Moment Row) : Type 0 where
  pub answers : List Answer
  pub lived : Lives k first (map (lent cost tally) (map asked_of before)) answers last
  pub answered : map (λ turn. turn.answer) after ≡ map Some answers
  pub asks : map asked_of after ≡ map asked_of before

module _ {Header Rule Row : Type 0} (k : Meaning Header Rule Row) (opened : ℕ) (asked : Asked (List ℕ → ℕ)) (found left : Memory Row) where
  abbrev pub start_of : Start Row
  start_of = record { lines = found.lines; room = length found.area; asked = asked }

  abbrev pub run_checks : List (Bool × Refusal)
  run_checks = lines_checks opened (length found.lines) ++ choice_checks k (rules_of k found.lines) asked.limits (length found.tally) (length found.area)

  -- what was made, and the tally that is left
  pub record TableMade (table : Shape) (choice : Choice) : Type 0 where
    pub made : Made k start_of choice (moment table left.lines left.area)
    pub tally : left.tally ≡ zeros found.tally

  abbrev pub Makes : {A F : Type 0} → (A → Shape × Choice) → (Refusal → F) → Result A F → Type 0
  Makes view tell = Answers tell (λ made. TableMade (view made).0 (view made).1) found left (verdict run_checks)

  -- by its turns, and the turns before and after it
  module _ {J : Type 0} (cost : J → List ℕ → ℕ) (before after : List (Turn Rule Header J)) where
    pub record Ran (table : Shape) (choice : Choice) : Type 0 where
      pub answers : List Answer
      pub history : History k start_of choice (map (lent cost (length found.tally)) (map asked_of before)) answers (moment table left.lines left.area)
      -- each turn has its answer, and asks what it did
      pub answered : map (λ turn. turn.answer) after ≡ map Some answers
      pub asks : map asked_of after ≡ map asked_of before
      pub tally : left.tally ≡ zeros found.tally

    pub record Runs {A F : Type 0} (view : A → Shape × Choice) (tell : Refusal → F) (answer : Result A F) : Type 0 where
      pub answers : Answers tell (λ made. Ran (view made).0 (view made).1) found left (verdict run_checks) answer
      -- a refused run answers no call
      pub kept : IfErr answer (λ _. after ≡ before)
