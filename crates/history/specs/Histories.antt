-- Histories of a table over lent memory: every call in them is the relation that its contract states.
--     Moment     what a history holds between two calls: the numbers of the table, the lines and the area
--     Step       one call on the table, lent a tally of so many numbers, whatever they are
--     Lives      a list of calls in order, each finding what those before it left
--     Start      what a table is made of: the lines as they are found, how long the area is, and what is asked
--     Made       a table made so: by one measuring and one laying, neither refused
--     History    a making, and then any list of calls
-- Assumes nothing.
use Rattle.std.specs.Prelude.{◌≡◌, ℕ, List, [], ◌∷◌, ◌++◌, length, Ok, Result}
use Rattle.kinds.specs.Meaning.{Meaning}
use Rattle.kinds.specs.declared.line.Line.{Line}
use Rattle.choice.specs.declared.choice.Choice.{Choice}
use Rattle.table.specs.Refusals.{at}
use Rattle.table.specs.Calls.{Memory, memory, Measures, Lays, Puts, Strikes, ChoosesAnew, looks_up}
use Rattle.table.specs.declared.refusal.Refusal.{Refusal}
use Rattle.table.specs.declared.refusal.Fault.{Fault}
use Rattle.table.specs.declared.shape.Shape.{Shape}
use Rattle.history.specs.Turns.{AnyCall, AnyTurn, of_change, of_choice, of_look_up}
use Rattle.history.specs.declared.turn.Asked.{Asked}
use Rattle.history.specs.declared.turn.Call.TheVariants.{Put, Strike, Choose, LookUp}
use Rattle.history.specs.declared.turn.Answer.{Answer}

pub record Moment (Row : Type 0) : Type 0 where
  pub table : Shape
  pub lines : List (Line Row)
  pub area : List ℕ

abbrev pub moment : {Row : Type 0} → Shape → List (Line Row) → List ℕ → Moment Row
moment table lines area = record { table = table; lines = lines; area = area }

-- the memory that a call finds or leaves then, with its tally
abbrev pub lending : {Row : Type 0} → Moment Row → List ℕ → Memory Row
lending m tally = memory m.lines m.area tally

pub record Start (Row : Type 0) : Type 0 where
  pub lines : List (Line Row)
  pub room : ℕ
  pub asked : Asked (List ℕ → ℕ)

module _ {Header Rule Row : Type 0} (k : Meaning Header Rule Row) where
  pub data Step (found : Moment Row) (tally : ℕ) : AnyCall Rule Header → Answer → Moment Row → Type 0 where
    puts : {line : ℕ} {rule : Rule} {left : Moment Row} (before after : List ℕ) (result : Result (Unit {0}) Fault)
        → length before ≡ tally → left.table ≡ found.table → Puts k found.table (lending found before) (lending left after) (at line) line rule result
        → Step found tally (Put line rule) (of_change result) left
    strikes : {line : ℕ} {left : Moment Row} (before after : List ℕ) (result : Result (Unit {0}) Fault)
        → length before ≡ tally → left.table ≡ found.table → Strikes k found.table (lending found before) (lending left after) (at line) line result
        → Step found tally (Strike line) (of_change result) left
    chooses : {asked : Asked (List ℕ → ℕ)} {left : Moment Row} (before after : List ℕ) (result : Result Choice Fault)
        → length before ≡ tally → ChoosesAnew k found.table (lending found before) (lending left after) asked.judge asked.limits left.table result
        → Step found tally (Choose asked) (of_choice result) left
    looks : {header : Header} → Step found tally (LookUp header) (of_look_up (looks_up k found.table header found.lines found.area)) found

  pub data Lives (first : Moment Row) : List (AnyTurn Rule Header) → List Answer → Moment Row → Type 0 where
    nothing_yet : Lives first [] [] first
    one_more : {turns : List (AnyTurn Rule Header)} {answers : List Answer} {last left : Moment Row} {turn : AnyTurn Rule Header} {answer : Answer} → Lives first turns answers last → Step last turn.tally turn.call answer left → Lives first (turns ++ turn ∷ []) (answers ++ answer ∷ []) left

  pub record Made (start : Start Row) (choice : Choice) (first : Moment Row) : Type 0 where
    -- how many lines were opened, the numbers measured, the tallies that the two calls found and left, and the area found, whatever they are
    pub opened : ℕ
    pub measured : Shape
    pub measuring_found : List ℕ
    pub measuring_left : List ℕ
    pub laying_found : List ℕ
    pub laying_left : List ℕ
    pub area : List ℕ
    pub long : length area ≡ start.room
    pub measures : Measures k opened start.room start.asked.judge start.asked.limits (memory start.lines [] measuring_found) (memory start.lines [] measuring_left) {F = Refusal} (λ made. made) (λ refusal. refusal) (Ok (measured, choice))
    pub lays : Lays k measured (memory start.lines area laying_found) (lending first laying_left) {F = Refusal} (λ made. made) (λ refusal. refusal) (Ok first.table)

  pub record History (start : Start Row) (choice : Choice) (turns : List (AnyTurn Rule Header)) (answers : List Answer) (last : Moment Row) : Type 0 where
    pub first : Moment Row
    pub made : Made start choice first
    pub lived : Lives first turns answers last
