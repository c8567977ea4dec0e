-- A book of a job: what a request asks of it, and what carrying that out is. For all inputs, by the calls of the table.
--     is_laid, lines_of    whether its table is laid; how many lines it was opened with
--     asking               a choice, by a judge if there is one
--     call_in              the call that a request asks for, or why it is refused before the book is asked (by put_of, put_in, look_up_of)
--     AnswersChange, AnswersChoice, found_told   how the job tells what a call on the book or the table gave
--     open_checks, IsOpened                      opening a book
--     Acts                 a call on a book: what it found, and what it left (by Aside, IsMade, IsAnew)
--     Takes                a request, by that call (Carries)
-- Assumes nothing.
use Rattle.std.specs.Prelude.{◌≡◌, ℕ, Bool, true, false, List, [], ◌∷◌, length, map, take, drop, nat_lt, Some, None, Ok, Err, Option, Result}
use Rattle.kinds.specs.Meaning.{Meaning}
use Rattle.choice.specs.declared.choice.Choice.{Choice}
use Rattle.choice.specs.declared.limits.Limits.{Limits}
use Rattle.kinds.specs.Checks.{◌and_then◌}
use Rattle.table.specs.Refusals.{at}
use Rattle.kinds.specs.declared.line.Line.{Line}
use Rattle.table.specs.Checks.{verdict, count_checks}
use Rattle.table.specs.Lines.{emptied}
use Rattle.table.specs.Calls.{Memory, memory, Answers, PutsInBook, StrikesInBook, Puts, Strikes, ChoosesAnew, looks_up}
use Rattle.table.specs.declared.shape.Shape.{Shape}
use Rattle.table.specs.declared.open.OpenBook.{OpenBook}
use Rattle.table.specs.declared.laid.LaidTable.{LaidTable}
use Rattle.table.specs.declared.refusal.Fault.{Fault as TableFault}
use Rattle.table.specs.declared.refusal.Refusal.{Refusal}
use Rattle.table.specs.declared.refusal.Refusal.TheVariants.{LineCount}
use Rattle.history.specs.Turns.{AnyCall, priced}
use Rattle.history.specs.Runs.{Makes}
use Rattle.history.specs.declared.turn.Asked.{Asked}
use Rattle.history.specs.declared.turn.Call.TheVariants.{Put, Strike, Choose, LookUp}
use Rattle.records.specs.Judges.{named_cost}
use Rattle.records.specs.declared.judge.NamedJudge.{NamedJudge}
use Rattle.records.specs.declared.judge.NamedJudge.TheVariants.{Largest}
use Rattle.records.specs.declared.request.Request.{Request}
use Rattle.records.specs.declared.request.Request.TheVariants as request
use Rattle.job.specs.Readings.{Reading}
use Rattle.job.specs.declared.answer.Answer.{Answer}
use Rattle.job.specs.declared.answer.Answer.TheVariants.{Done, Chosen, Found}
use Rattle.job.specs.declared.fault.Fault.{Fault}
use Rattle.job.specs.declared.fault.Fault.TheVariants.{OutOfOrder, Table}
use Rattle.job.specs.declared.filter.Filter.{Filter}
use Rattle.job.specs.declared.filter.Filter.TheVariants.{Open, Laid}

abbrev pub is_laid : {K : Type 0} → Filter K → Bool
is_laid (Open _) = false
is_laid (Laid _) = true

-- how many lines it was opened with
abbrev pub lines_of : {K : Type 0} → Filter K → ℕ
lines_of (Open book) = book.lines
lines_of (Laid table) = table.shape.lines

-- where there is no such judge, more bits are asked for than there can be
abbrev pub asking : Option NamedJudge → Limits → Asked NamedJudge
asking (Some judge) limits = record { judge = judge; limits = limits }
asking None limits = record { judge = Largest; limits = record { most_bits = 255; most_tries = 0 } }

module _ {Header Rule Row : Type 0} (reading : Reading Header Rule Row) where
  abbrev pub put_of : ℕ → Row → Result (AnyCall Rule Header) Fault
  put_of line row = reading.rule_of row and_then λ rule. Ok (Put line rule)

  -- the row of another kind's rule is out of order
  abbrev pub put_in : ℕ → Option Row → Result (AnyCall Rule Header) Fault
  put_in line (Some row) = put_of line row
  put_in line None = Err OutOfOrder

  abbrev pub look_up_of : List ℕ → Result (AnyCall Rule Header) Fault
  look_up_of packet = reading.header_of packet and_then λ header. Ok (LookUp header)

  abbrev pub call_in : (laid : Bool) → Request → Result (AnyCall Rule Header) Fault
  call_in laid (request.Put line row) = put_in line (reading.row_in row)
  call_in laid (request.Strike line) = Ok (Strike line)
  call_in laid (request.Choose judge limits) = Ok (Choose (priced named_cost (asking judge limits)))
  call_in true (request.LookUp packet) = look_up_of packet.now
  call_in false (request.LookUp packet) = Err OutOfOrder
  call_in laid (request.OpenRouted _) = Err OutOfOrder
  call_in laid (request.OpenBridge _) = Err OutOfOrder

-- the answers of the calls that give nothing, a choice, or a line, as the job tells them
module _ (Did : Result (Unit {0}) TableFault → Type 0) where
  abbrev pub AnswersChange : Result Answer Fault → Type 0
  AnswersChange (Ok Done) = Did (Ok tt)
  AnswersChange (Err (Table fault)) = Did (Err fault)
  AnswersChange _ = ⊥

module _ (Did : Result Choice TableFault → Type 0) where
  abbrev pub AnswersChoice : Result Answer Fault → Type 0
  AnswersChoice (Ok (Chosen choice)) = Did (Ok choice)
  AnswersChoice (Err (Table fault)) = Did (Err fault)
  AnswersChoice _ = ⊥

abbrev pub found_told : Result (Option ℕ × ℕ) TableFault → Result Answer Fault
found_told (Ok found) = Ok (Found found.0 found.1)
found_told (Err fault) = Err (Table fault)

-- an open book is lent the lines alone; area and tally stay aside
abbrev pub only_lines : {Row : Type 0} → Memory Row → Memory Row
only_lines lent = memory lent.lines [] []

pub record Aside {Row : Type 0} (found left : Memory Row) : Type 0 where
  pub area : left.area ≡ found.area
  pub tally : left.tally ≡ found.tally

-- a book is opened over the first of the lines that are lent, which become empty
abbrev pub open_checks : (count lent : ℕ) → List (Bool × Refusal)
open_checks count lent = (nat_lt lent count, LineCount) ∷ count_checks count

abbrev pub IsOpened : {K Row : Type 0} → ℕ → (found left : List (Line Row)) → Result (Filter K) TableFault → Type 0
IsOpened count found left answer =
    Answers (at 0) (λ book. (is_laid book ≡ false) × (lines_of book ≡ count) × (take count left ≡ map emptied (take count found)) × (drop count left ≡ drop count found))
    (memory found [] []) (memory left [] []) (verdict (open_checks count (length found))) answer

module _ {Header Rule Row K : Type 0} (k : Meaning Header Rule Row) (found left : Memory Row) where
  -- a table that was made of an open book, or the book that it was
  abbrev pub IsMade : OpenBook K → Asked (List ℕ → ℕ) → Filter K → Result Answer Fault → Type 0
  IsMade book asked (Laid table) (Ok (Chosen choice)) = Makes k book.lines asked found left {F = TableFault} (λ made. made) (at 0) (Ok (table.shape, choice))
  IsMade book asked (Open after) (Err (Table fault)) = (after ≡ book) × Makes k book.lines asked found left {A = Shape × Choice} (λ made. made) (at 0) (Err fault)
  IsMade book asked _ _ = ⊥

  abbrev pub IsAnew : LaidTable K → Asked (List ℕ → ℕ) → Filter K → Result Answer Fault → Type 0
  IsAnew table asked (Laid after) = AnswersChoice (ChoosesAnew k table.shape found left asked.judge asked.limits after.shape)
  IsAnew table asked (Open _) = λ _. ⊥

  abbrev pub Acts : Filter K → AnyCall Rule Header → Filter K → Result Answer Fault → Type 0
  Acts (Open book) (Put line rule) after answer = (after ≡ Open book) × Aside found left × AnswersChange (PutsInBook k book.lines (only_lines found) (only_lines left) (at line) line rule) answer
  Acts (Open book) (Strike line) after answer = (after ≡ Open book) × Aside found left × AnswersChange (StrikesInBook k book.lines (only_lines found) (only_lines left) (at line) line) answer
  Acts (Open book) (Choose asked) after answer = IsMade book asked after answer
  Acts (Open book) (LookUp header) after answer = ⊥
  Acts (Laid table) (Put line rule) after answer = (after ≡ Laid table) × AnswersChange (Puts k table.shape found left (at line) line rule) answer
  Acts (Laid table) (Strike line) after answer = (after ≡ Laid table) × AnswersChange (Strikes k table.shape found left (at line) line) answer
  Acts (Laid table) (Choose asked) after answer = IsAnew table asked after answer
  Acts (Laid table) (LookUp header) after answer = (after ≡ Laid table) × (left ≡ found) × (answer ≡ found_told (looks_up k table.shape header found.lines found.area))

  -- a request: the call that it asks for, or none
  abbrev pub Carries : Filter K → Result (AnyCall Rule Header) Fault → Filter K → Result Answer Fault → Type 0
  Carries book (Ok call) after answer = Acts book call after answer
  Carries book (Err fault) after answer = (after ≡ book) × (left ≡ found) × (answer ≡ Err fault)

  abbrev pub Takes : Reading Header Rule Row → Filter K → Request → Filter K → Result Answer Fault → Type 0
  Takes reading book asked = Carries book (call_in reading (is_laid book) asked)
