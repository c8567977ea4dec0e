-- The plain job: what a job's records mean, without lent memory, area or marks.
--     Lengths               how much memory a job is lent
--     PlainBook, has_table  a book: open, by a rule or none for each line; or the plain book of a table
--     told                  what a table answers, as the job tells it
--     book_checks, BookSays what an open book refuses; a call on a book: the answer, and the book that is left
--     AsksBook              a request to it: the call that is asked for, or why it is refused before the book is asked (AsksCall)
--     PlainJob              nothing is open yet, or a book of some kind
--     Opens                 an opening, by the verdict on its count
--     Asks, PlainAnswers    a request to a plain job; a record, by what it asks for
--     Says                  what a reader gives: a record, or the place where the job is cut off
--     Tells                 what a reader gives in order, each with its reply
-- Assumes nothing.
use Rattle.std.specs.Prelude.{◌≡◌, ℕ, Bool, true, false, List, [], ◌∷◌, replicate, Some, None, Ok, Err, Option, Result, slice_set}
use Rattle.kinds.specs.Meaning.{Meaning}
use Rattle.choice.specs.Choice.{IsChoice}
use Rattle.choice.specs.declared.choice.Choice.{Choice}
use Rattle.routed.specs.Routed.{routed as routed_kind}
use Rattle.routed.specs.declared.rule.Rule.{Rule as RoutedRule}
use Rattle.bridge.specs.Bridge.{bridge as bridge_kind}
use Rattle.bridge.specs.declared.rule.Rule.{Rule as BridgeRule}
use Rattle.table.specs.Refusals.{at}
use Rattle.table.specs.Checks.{verdict, put_checks, strike_checks, choice_checks}
use Rattle.table.specs.declared.refusal.Refusal.{Refusal}
use Rattle.history.specs.Turns.{AnyCall, line_of}
use Rattle.history.specs.Plain.{Plain, Says as TableSays}
use Rattle.history.specs.declared.turn.Asked.{Asked}
use Rattle.history.specs.declared.turn.Call.TheVariants.{Put, Strike, Choose, LookUp}
use Rattle.history.specs.declared.turn.Answer.{Answer as TableAnswer}
use Rattle.history.specs.declared.turn.Answer.TheVariants as table
use Rattle.records.specs.Requests.{request_of}
use Rattle.records.specs.declared.record.Record.{Record}
use Rattle.records.specs.declared.record.CutOff.{CutOff}
use Rattle.records.specs.declared.refusal.Refusal.{Refusal as RecordRefusal}
use Rattle.records.specs.declared.refusal.Refusal.TheVariants as refused
use Rattle.records.specs.declared.request.Request.{Request}
use Rattle.records.specs.declared.request.Request.TheVariants.{OpenRouted, OpenBridge}
use Rattle.job.specs.Readings.{Reading, routed_reading, bridge_reading}
use Rattle.job.specs.Books.{call_in, open_checks}
use Rattle.job.specs.declared.answer.Answer.{Answer}
use Rattle.job.specs.declared.answer.Answer.TheVariants.{Done, Chosen, Found}
use Rattle.job.specs.declared.fault.Fault.{Fault}
use Rattle.job.specs.declared.fault.Fault.TheVariants as fault
use Rattle.job.specs.declared.reply.Reply.{Reply}

pub record Lengths : Type 0 where
  pub routed : ℕ
  pub bridge : ℕ
  pub area : ℕ
  pub tally : ℕ

pub data PlainBook (Rule : Type 0) : Type 0 where
  opened : List (Option Rule) → PlainBook Rule
  laid : Plain Rule → PlainBook Rule

abbrev pub has_table : {Rule : Type 0} → PlainBook Rule → Bool
has_table (opened _) = false
has_table (laid _) = true

-- what a table answers, as the job tells it
abbrev pub told : TableAnswer → Result Answer Fault
told table.Done = Ok Done
told (table.Chosen choice) = Ok (Chosen choice)
told (table.Found line tried) = Ok (Found line tried)
told (table.Refused refused) = Err (fault.Table refused)

module _ {Header Rule Row : Type 0} (k : Meaning Header Rule Row) (room tally : ℕ) where
  -- what an open book refuses
  abbrev pub book_checks : List (Option Rule) → AnyCall Rule Header → List (Bool × Refusal)
  book_checks rules (Put line rule) = put_checks rules line
  book_checks rules (Strike line) = strike_checks rules line
  book_checks rules (Choose asked) = choice_checks k rules asked.limits tally room
  book_checks rules (LookUp header) = []

  pub data BookSays : PlainBook Rule → AnyCall Rule Header → Result Answer Fault → PlainBook Rule → Type 0 where
    -- what is refused changes nothing
    refuses : {rules : List (Option Rule)} {call : AnyCall Rule Header} {refusal : Refusal} → verdict (book_checks rules call) ≡ Err refusal → BookSays (opened rules) call (Err (fault.Table (at (line_of call) refusal))) (opened rules)
    -- a put gives its line the rule, and a strike empties it
    puts : {rules : List (Option Rule)} {line : ℕ} {rule : Rule} → verdict (book_checks rules (Put line rule)) ≡ Ok tt → BookSays (opened rules) (Put line rule) (Ok Done) (opened (slice_set rules line (Some rule)))
    strikes : {rules : List (Option Rule)} {line : ℕ} → verdict (book_checks rules (Strike line)) ≡ Ok tt → BookSays (opened rules) (Strike line) (Ok Done) (opened (slice_set rules line None))
    -- the table is laid for the bits reached
    lays : {rules : List (Option Rule)} {asked : Asked (List ℕ → ℕ)} {choice : Choice} → verdict (book_checks rules (Choose asked)) ≡ Ok tt → IsChoice k rules room asked.judge asked.limits choice → BookSays (opened rules) (Choose asked) (Ok (Chosen choice)) (laid (record { rules = rules; bits = choice.bits }))
    -- from then on the plain book of the table answers
    on_table : {p q : Plain Rule} {call : AnyCall Rule Header} {answer : TableAnswer} → TableSays k room p tally call answer q → BookSays (laid p) call (told answer) (laid q)

  abbrev pub AsksCall : PlainBook Rule → Result (AnyCall Rule Header) Fault → Result Answer Fault → PlainBook Rule → Type 0
  AsksCall p (Ok call) answer q = BookSays p call answer q
  AsksCall p (Err fault) answer q = (answer ≡ Err fault) × (q ≡ p)

  abbrev pub AsksBook : Reading Header Rule Row → PlainBook Rule → Request → Result Answer Fault → PlainBook Rule → Type 0
  AsksBook reading p request = AsksCall p (call_in reading (has_table p) request)

pub data PlainJob : Type 0 where
  unopened : PlainJob
  routed : PlainBook RoutedRule → PlainJob
  bridge : PlainBook BridgeRule → PlainJob

abbrev pub empty : {Rule : Type 0} → ℕ → PlainBook Rule
empty count = opened (replicate count None)

module _ (m : Lengths) where
  -- by the verdict on its count, a book is opened
  abbrev pub Opens : Result (Unit {0}) Refusal → PlainJob → Result Answer Fault → PlainJob → Type 0
  Opens (Ok _) book answer q = (answer ≡ Ok Done) × (q ≡ book)
  Opens (Err refusal) book answer q = (answer ≡ Err (fault.Table (at 0 refusal))) × (q ≡ unopened)

  abbrev pub Asks : PlainJob → Request → Result Answer Fault → PlainJob → Type 0
  Asks unopened (OpenRouted count) = Opens (verdict (open_checks count m.routed)) (routed (empty count))
  Asks unopened (OpenBridge count) = Opens (verdict (open_checks count m.bridge)) (bridge (empty count))
  Asks unopened _ = λ answer q. (answer ≡ Err fault.OutOfOrder) × (q ≡ unopened)
  Asks (routed p) request = λ answer q. (after : PlainBook RoutedRule) × AsksBook routed_kind m.area m.tally routed_reading p request answer after × (q ≡ routed after)
  Asks (bridge p) request = λ answer q. (after : PlainBook BridgeRule) × AsksBook bridge_kind m.area m.tally bridge_reading p request answer after × (q ≡ bridge after)

  -- by what the record asks for, if it is no refused one
  abbrev pub PlainAnswers : PlainJob → Result Request RecordRefusal → Result Answer Fault → PlainJob → Type 0
  PlainAnswers p (Ok request) answer q = Asks p request answer q
  PlainAnswers p (Err refusal) answer q = (answer ≡ Err (fault.Record refusal)) × (q ≡ p)

  abbrev pub Says : PlainJob → Result Record CutOff → Reply → PlainJob → Type 0
  Says p (Ok this) reply q = (reply.offset ≡ this.offset) × PlainAnswers p (request_of this) reply.answer q
  Says p (Err cut) reply q = (reply.offset ≡ cut.offset) × (reply.answer ≡ Err (fault.Record refused.CutOff)) × (q ≡ p)

  abbrev pub Tells : PlainJob → List (Result Record CutOff) → List Reply → PlainJob → Type 0
  Tells p [] [] q = q ≡ p
  Tells p (read ∷ reads) (reply ∷ replies) q = (next : PlainJob) × Says p read reply next × Tells next reads replies q
  Tells p _ _ q = ⊥
