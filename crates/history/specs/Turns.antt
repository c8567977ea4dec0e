-- Turns of a history, by what their judges say.
--     AnyCall, AnyTurn   a call whose judge, if it has one, is a cost, and such a call with the length of the tally that it is lent
--     Unanswered         what a turn asks: its call, and the length of the tally that it wants
--     asked_of           that of a turn
--     priced             what is asked, with the judge told by its costs
--     costed             a call as it is told so
--     lent               what is asked, where so many numbers of the tally are at hand
--     line_of            the line that a call is given, or 0
--     of_change, of_choice, of_look_up   the answers of a history, from those of a table
-- Assumes nothing.
use Rattle.std.specs.Prelude.{ℕ, min, List, Ok, Err, Option, Result}
use Rattle.choice.specs.declared.choice.Choice.{Choice}
use Rattle.table.specs.declared.refusal.Fault.{Fault}
use Rattle.history.specs.declared.turn.Asked.{Asked}
use Rattle.history.specs.declared.turn.Call.{Call}
use Rattle.history.specs.declared.turn.Call.TheVariants.{Put, Strike, Choose, LookUp}
use Rattle.history.specs.declared.turn.Turn.{Turn}
use Rattle.history.specs.declared.turn.Answer.{Answer}
use Rattle.history.specs.declared.turn.Answer.TheVariants.{Done, Chosen, Found, Refused}

pub record Unanswered (Rule Header J : Type 0) : Type 0 where
  pub call : Call Rule Header J
  pub tally : ℕ

module _ (Rule Header : Type 0) where
  abbrev pub AnyCall : Type 0
  AnyCall = Call Rule Header (List ℕ → ℕ)

  abbrev pub AnyTurn : Type 0
  AnyTurn = Unanswered Rule Header (List ℕ → ℕ)

abbrev pub priced : {J : Type 0} → (J → List ℕ → ℕ) → Asked J → Asked (List ℕ → ℕ)
priced cost asked = record { judge = cost asked.judge; limits = asked.limits }

module _ {Rule Header J : Type 0} where
  abbrev pub costed : (J → List ℕ → ℕ) → Call Rule Header J → AnyCall Rule Header
  costed cost (Put line rule) = Put line rule
  costed cost (Strike line) = Strike line
  costed cost (Choose asked) = Choose (priced cost asked)
  costed cost (LookUp header) = LookUp header

  abbrev pub asked_of : Turn Rule Header J → Unanswered Rule Header J
  asked_of turn = record { call = turn.call; tally = turn.tally }

  abbrev pub lent : (J → List ℕ → ℕ) → (tally : ℕ) → Unanswered Rule Header J → AnyTurn Rule Header
  lent cost tally asked = record { call = costed cost asked.call; tally = min asked.tally tally }

  abbrev pub line_of : Call Rule Header J → ℕ
  line_of (Put line rule) = line
  line_of (Strike line) = line
  line_of (Choose asked) = 0
  line_of (LookUp header) = 0

abbrev pub of_change : Result (Unit {0}) Fault → Answer
of_change (Ok _) = Done
of_change (Err fault) = Refused fault

abbrev pub of_choice : Result Choice Fault → Answer
of_choice (Ok choice) = Chosen choice
of_choice (Err fault) = Refused fault

abbrev pub of_look_up : Result (Option ℕ × ℕ) Fault → Answer
of_look_up (Ok found) = Found found.0 found.1
of_look_up (Err fault) = Refused fault
