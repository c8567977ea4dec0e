-- What holds of every plain job: its look-ups name the lowest line, and it answers in one way.
use Rattle.std.proofs.Common.{◌≡◌, ℕ, List, [], ◌∷◌, length, Ok, Err, Result, sym, refl, ap, ap₂, ◌∙◌, subst, arith}
use Rattle.std.specs.Borrow.{Bor}
use Rattle.kinds.specs.Meaning.{Meaning}
use Rattle.kinds.specs.Checks.{◌and_then◌}
use Rattle.routed.specs.Routed.{routed as routed_kind}
use Rattle.bridge.specs.Bridge.{bridge as bridge_kind}
use Rattle.choice.specs.declared.choice.Choice.{Choice}
use Rattle.choice.proofs.Whole.{only_choice}
use Rattle.table.specs.Refusals.{at}
use Rattle.table.specs.declared.refusal.Refusal.{Refusal}
use Rattle.table.proofs.Calls.{err_ok, err_one}
use Rattle.history.specs.Turns.{AnyCall, line_of}
use Rattle.history.specs.Plain.{Plain, Says as TableSays}
use Rattle.history.specs.declared.turn.Call.TheVariants.{LookUp as FindLine}
use Rattle.history.proofs.Plain.{never, says_one}
use Rattle.records.specs.Records.{Walks}
use Rattle.records.specs.Requests.{request_of}
use Rattle.records.proofs.Walks.{Alike, reads_on, reads_alike}
use Rattle.records.proofs.Requests.{SameRequest, same_request}
use Rattle.job.specs.Books.{look_up_of}
use Rattle.records.specs.declared.record.Record.{Record}
use Rattle.records.specs.declared.record.CutOff.{CutOff}
use Rattle.records.specs.declared.refusal.Refusal.{Refusal as RecordRefusal}
use Rattle.records.specs.declared.request.Request.{Request}
use Rattle.records.specs.declared.request.Request.TheVariants as request
use Rattle.job.specs.Readings.{Reading, routed_reading, bridge_reading}
use Rattle.job.specs.PlainJobs.{Lengths, PlainBook, opened, laid, told, BookSays, AsksCall, PlainJob, unopened, routed, bridge, Opens, Asks, PlainAnswers, Says, Tells}
use Rattle.job.specs.Facts.{NamesLowest, FindsInBook, LooksUpLowest, OneAnswer}
use Rattle.job.specs.declared.answer.Answer.{Answer}
use Rattle.job.specs.declared.answer.Answer.TheVariants.{Chosen}
use Rattle.job.specs.declared.fault.Fault.{Fault}
use Rattle.job.specs.declared.fault.Fault.TheVariants as fault
use Rattle.job.specs.declared.reply.Reply.{Reply}

module _ {Header Rule Row : Type 0} (k : Meaning Header Rule Row) (room tally : ℕ) where
  -- a table's look-up
  table_finds : (table : Plain Rule) (header : Header) (answer : Result Answer Fault) (next : PlainBook Rule) → BookSays k room tally (laid table) (FindLine header) answer next → NamesLowest k table.rules header answer
  table_finds table header answer next (BookSays.on_table (TableSays.looks_up found)) = found.lowest
  table_finds table header answer next (BookSays.on_table (TableSays.refuses e)) = absurd (err_ok (sym e))

  book_one : {p : PlainBook Rule} {call : AnyCall Rule Header} {a b : Result Answer Fault} {q r : PlainBook Rule} → BookSays k room tally p call a q → BookSays k room tally p call b r → (a ≡ b) × (q ≡ r)
  book_one {call = call} (BookSays.refuses {refusal = x} e) (BookSays.refuses {refusal = y} f) = (ap (λ z. Err (fault.Table (at (line_of call) z))) (err_one (sym e ∙ f)), refl)
  book_one (BookSays.refuses {refusal = x} e) (BookSays.puts f) = never k room _ x e f
  book_one (BookSays.refuses {refusal = x} e) (BookSays.strikes f) = never k room _ x e f
  book_one (BookSays.refuses {refusal = x} e) (BookSays.lays f _) = never k room _ x e f
  book_one (BookSays.puts e) (BookSays.refuses {refusal = y} f) = never k room _ y f e
  book_one (BookSays.puts e) (BookSays.puts f) = (refl, refl)
  book_one (BookSays.strikes e) (BookSays.refuses {refusal = y} f) = never k room _ y f e
  book_one (BookSays.strikes e) (BookSays.strikes f) = (refl, refl)
  book_one (BookSays.lays e _) (BookSays.refuses {refusal = y} f) = never k room _ y f e
  book_one (BookSays.lays {rules} {asked} {choice} e c) (BookSays.lays {choice = other} f d) =
      let same : choice ≡ other = sym (only_choice k rules room asked.judge asked.limits choice c other d) in
      (ap (λ x. Ok (Chosen x)) same, ap (λ (x : Choice). laid (record { rules = rules; bits = x.bits })) same)
  book_one (BookSays.on_table x) (BookSays.on_table y) =
      let same = says_one k room x y in
      (ap told same.0, ap laid same.1)

  call_one : (p : PlainBook Rule) (v : Result (AnyCall Rule Header) Fault) (a b : Result Answer Fault) (q r : PlainBook Rule) → AsksCall k room tally p v a q → AsksCall k room tally p v b r → (a ≡ b) × (q ≡ r)
  call_one p (Ok call) a b q r x y = book_one x y
  call_one p (Err fault) a b q r x y = (x.0 ∙ sym y.0, x.1 ∙ sym y.1)

module _ (m : Lengths) where
  opens_one : (v : Result (Unit {0}) Refusal) (book : PlainJob) (a b : Result Answer Fault) (q r : PlainJob) → Opens m v book a q → Opens m v book b r → (a ≡ b) × (q ≡ r)
  opens_one (Ok _) book a b q r x y = (x.0 ∙ sym y.0, x.1 ∙ sym y.1)
  opens_one (Err refusal) book a b q r x y = (x.0 ∙ sym y.0, x.1 ∙ sym y.1)

  asks_one : (p : PlainJob) (v : Request) (a b : Result Answer Fault) (q r : PlainJob) → Asks m p v a q → Asks m p v b r → (a ≡ b) × (q ≡ r)
  asks_one unopened (request.OpenRouted count) a b q r x y = opens_one _ _ a b q r x y
  asks_one unopened (request.OpenBridge count) a b q r x y = opens_one _ _ a b q r x y
  asks_one unopened (request.Put line row) a b q r x y = (x.0 ∙ sym y.0, x.1 ∙ sym y.1)
  asks_one unopened (request.Strike line) a b q r x y = (x.0 ∙ sym y.0, x.1 ∙ sym y.1)
  asks_one unopened (request.Choose judge limits) a b q r x y = (x.0 ∙ sym y.0, x.1 ∙ sym y.1)
  asks_one unopened (request.LookUp packet) a b q r x y = (x.0 ∙ sym y.0, x.1 ∙ sym y.1)
  asks_one (routed p) v a b q r x y =
      let same = call_one routed_kind m.area m.tally p _ a b x.0 y.0 x.1 y.1 in
      (same.0, x.2 ∙ ap routed same.1 ∙ sym y.2)
  asks_one (bridge p) v a b q r x y =
      let same = call_one bridge_kind m.area m.tally p _ a b x.0 y.0 x.1 y.1 in
      (same.0, x.2 ∙ ap bridge same.1 ∙ sym y.2)

  -- only what a packet says matters, not where it lies
  look_as : (p : PlainJob) (packet other : Bor (List ℕ)) (b : Result Answer Fault) (r : PlainJob) → other.now ≡ packet.now → Asks m p (request.LookUp other) b r → Asks m p (request.LookUp packet) b r
  look_as unopened packet other b r same x = x
  look_as (routed (opened _)) packet other b r same x = x
  look_as (bridge (opened _)) packet other b r same x = x
  look_as (routed (laid table)) packet other b r same x = (x.0, subst (λ n. AsksCall routed_kind m.area m.tally (laid table) (look_up_of routed_reading n) b x.0) same x.1, x.2)
  look_as (bridge (laid table)) packet other b r same x = (x.0, subst (λ n. AsksCall bridge_kind m.area m.tally (laid table) (look_up_of bridge_reading n) b x.0) same x.1, x.2)

  answers_as : (p : PlainJob) (v w : Result Request RecordRefusal) (b : Result Answer Fault) (r : PlainJob) → w ≡ v → PlainAnswers m p w b r → PlainAnswers m p v b r
  answers_as p v w b r same x = subst (λ u. PlainAnswers m p u b r) same x

  same_answers : (p : PlainJob) (v w : Result Request RecordRefusal) (b : Result Answer Fault) (r : PlainJob) → SameRequest v w → PlainAnswers m p w b r → PlainAnswers m p v b r
  same_answers p (Ok (request.LookUp packet)) (Ok (request.LookUp other)) b r same x = look_as p packet other b r same x
  same_answers p (Ok (request.LookUp packet)) (Ok (request.OpenRouted lines)) b r same x = answers_as p _ _ b r same x
  same_answers p (Ok (request.LookUp packet)) (Ok (request.OpenBridge lines)) b r same x = answers_as p _ _ b r same x
  same_answers p (Ok (request.LookUp packet)) (Ok (request.Put line row)) b r same x = answers_as p _ _ b r same x
  same_answers p (Ok (request.LookUp packet)) (Ok (request.Strike line)) b r same x = answers_as p _ _ b r same x
  same_answers p (Ok (request.LookUp packet)) (Ok (request.Choose judge limits)) b r same x = answers_as p _ _ b r same x
  same_answers p (Ok (request.LookUp packet)) (Err refusal) b r same x = answers_as p _ _ b r same x
  same_answers p (Ok (request.OpenRouted lines)) w b r same x = answers_as p _ w b r same x
  same_answers p (Ok (request.OpenBridge lines)) w b r same x = answers_as p _ w b r same x
  same_answers p (Ok (request.Put line row)) w b r same x = answers_as p _ w b r same x
  same_answers p (Ok (request.Strike line)) w b r same x = answers_as p _ w b r same x
  same_answers p (Ok (request.Choose judge limits)) w b r same x = answers_as p _ w b r same x
  same_answers p (Err refusal) w b r same x = answers_as p _ w b r same x

  answers_one : (p : PlainJob) (v : Result Request RecordRefusal) (a b : Result Answer Fault) (q r : PlainJob) → PlainAnswers m p v a q → PlainAnswers m p v b r → (a ≡ b) × (q ≡ r)
  answers_one p (Ok v) a b q r x y = asks_one p v a b q r x y
  answers_one p (Err refusal) a b q r x y = (x.0 ∙ sym y.0, x.1 ∙ sym y.1)

  reply_is : (one other : Reply) → one.offset ≡ other.offset → one.answer ≡ other.answer → one ≡ other
  reply_is one other offset answer i = record { offset = offset i; answer = answer i }

  -- two readings that say the same are replied to alike
  says_alike : (p : PlainJob) (read other : Result Record CutOff) (x y : Reply) (q r : PlainJob) → Alike read other → Says m p read x q → Says m p other y r → (y ≡ x) × (r ≡ q)
  says_alike p (Ok this) (Ok other) x y q r alike says says_too =
      let asked = same_answers p (request_of this) (request_of other) y.answer r (same_request this other alike.1 alike.2) says_too.1 in
      let same = answers_one p (request_of this) x.answer y.answer q r says.1 asked in
      (reply_is y x (says_too.0 ∙ alike.0 ∙ sym says.0) (sym same.0), sym same.1)
  says_alike p (Err cut) (Err other) x y q r alike says says_too = (reply_is y x (says_too.0 ∙ alike ∙ sym says.0) (says_too.1 ∙ sym says.1), says_too.2 ∙ sym says.2)
  says_alike p (Ok this) (Err other) x y q r alike says says_too = absurd alike
  says_alike p (Err cut) (Ok other) x y q r alike says says_too = absurd alike

  module _ (file : List ℕ) where
    -- the rest of a job, from any place and plain job on
    tells_alike : (at : ℕ) (p : PlainJob) (reads others : List (Result Record CutOff)) (xs ys : List Reply) (q r : PlainJob)
        → Walks file at reads (length file) → Tells m p reads xs q → Walks file at others (length file) → Tells m p others ys r → (ys ≡ xs) × (r ≡ q)
    tells_alike at p [] [] [] [] q r walked told walked_too told_too = (refl, told_too ∙ sym told)
    tells_alike at p [] (other ∷ others) xs ys q r walked told walked_too told_too = absurd (omega (arith, walked, reads_on file at walked_too.0 other walked_too.1))
    tells_alike at p (read ∷ reads) [] xs ys q r walked told walked_too told_too = absurd (omega (arith, walked_too, reads_on file at walked.0 read walked.1))
    tells_alike at p (read ∷ reads) (other ∷ others) (x ∷ xs) (y ∷ ys) q r walked told walked_too told_too =
        let here = reads_alike file at walked.0 walked_too.0 read other walked.1 walked_too.1 in
        let now = says_alike p read other x y told.0 told_too.0 here.1 told.1 told_too.1 in
        let on = tells_alike walked.0 told.0 reads others xs ys q r walked.2 told.2 (subst (λ (n : ℕ). Walks file n others (length file)) here.0 walked_too.2) (subst (λ s. Tells m s others ys r) now.1 told_too.2) in
        (ap₂ (λ z zs. z ∷ zs) now.0 on.0, on.1)
    tells_alike at p [] [] [] (_ ∷ _) q r walked told walked_too told_too = absurd told_too
    tells_alike at p [] [] (_ ∷ _) ys q r walked told walked_too told_too = absurd told
    tells_alike at p (read ∷ reads) (other ∷ others) [] ys q r walked told walked_too told_too = absurd told
    tells_alike at p (read ∷ reads) (other ∷ others) (_ ∷ _) [] q r walked told walked_too told_too = absurd told_too

pub one_answer : OneAnswer
one_answer m job reads other_reads replies others p q walked told walked_too told_too = tells_alike m job 0 unopened reads other_reads replies others p q walked told walked_too told_too

-- a look-up in a book
module _ {Header Rule Row : Type 0} (k : Meaning Header Rule Row) (reading : Reading Header Rule Row) (of : PlainBook Rule → PlainJob) where
  finds : ((m : Lengths) (table : Plain Rule) (packet : Bor (List ℕ)) (answer : Result Answer Fault) (after : PlainJob) → Asks m (of (laid table)) (request.LookUp packet) answer after
      → (next : PlainBook Rule) × AsksCall k m.area m.tally (laid table) (reading.header_of packet.now and_then λ header. Ok (FindLine header)) answer next)
      → FindsInBook k reading of
  finds asked m table this packet header reply after is reads says =
      let asks : Asks m (of (laid table)) (request.LookUp packet) reply.answer after = subst (λ (v : Result Request RecordRefusal). PlainAnswers m (of (laid table)) v reply.answer after) is says.1 in
      let called = asked m table packet reply.answer after asks in
      let finds = subst (λ (h : Result Header Fault). AsksCall k m.area m.tally (laid table) (h and_then λ header. Ok (FindLine header)) reply.answer called.0) reads called.1 in
      table_finds k m.area m.tally table header reply.answer called.0 finds

pub looks_up_lowest : LooksUpLowest
looks_up_lowest = (
  finds routed_kind routed_reading routed (λ m table packet answer after asks. (asks.0, asks.1)),
  finds bridge_kind bridge_reading bridge (λ m table packet answer after asks. (asks.0, asks.1)),
)
