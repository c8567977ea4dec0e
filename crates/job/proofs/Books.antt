-- A book that stands: its lines, its area and its numbers are a plain book's. A request to it leaves such a book, and the plain book says the same.
use Rattle.std.proofs.Common.{◌≡◌, ◌⊎◌, inl, inr, ℕ, Bool, true, false, List, ◌++◌, length, replicate, if◌then◌else◌, Some, None, Ok, Err, Option, Result, sym, refl, ap, ap₂, ◌∙◌, subst, slice_set}
use Rattle.std.proofs.lemmas.Bool.{eq-eqb}
use Rattle.std.proofs.lemmas.List.{length-map, length-replicate}
use Rattle.kinds.specs.Meaning.{Meaning, Lawful}
use Rattle.kinds.specs.Lines.{rule_of, rules_of}
use Rattle.kinds.specs.declared.line.Line.{Line}
use Rattle.choice.specs.Choice.{IsChoice as ReachesChoice}
use Rattle.choice.specs.declared.choice.Choice.{Choice}
use Rattle.table.specs.Refusals.{at, began}
use Rattle.table.specs.Checks.{verdict, lines_checks, choice_checks}
use Rattle.table.specs.Lines.{Holds, IsEmptied, Replaced}
use Rattle.table.specs.Calls.{Memory, zeros, tally_left, Answers, Relaid, Anew, Puts, Strikes, ChoosesAnew, looks_up, table_put_checks, table_strike_checks}
use Rattle.table.specs.declared.refusal.Refusal.{Refusal}
use Rattle.table.specs.declared.refusal.Fault.{Fault as TableFault}
use Rattle.table.specs.declared.shape.Shape.{Shape}
use Rattle.table.specs.declared.open.OpenBook.{OpenBook}
use Rattle.table.specs.declared.laid.LaidTable.{LaidTable}
use Rattle.table.proofs.Calls.{verdict_behind, err_one}
use Rattle.table.proofs.Lines.{emptied_none}
use Rattle.history.specs.Turns.{AnyCall, line_of, of_change, of_choice, of_look_up}
use Rattle.history.specs.Plain.{Plain, Says as TableSays}
use Rattle.history.specs.Histories.{moment, Step}
use Rattle.history.specs.Facts.{plain_of}
use Rattle.history.specs.Runs.{start_of, TableMade}
use Rattle.history.specs.declared.turn.Asked.{Asked}
use Rattle.history.specs.declared.turn.Call.TheVariants.{Put, Strike, Choose, LookUp}
use Rattle.history.specs.declared.turn.Answer.{Answer as TableAnswer}
use Rattle.history.proofs.Answers.{did, was_refused}
use Rattle.history.proofs.Standing.{Stands, replaced_rules, replaced_length}
use Rattle.history.proofs.Facts.{made_is}
use Rattle.history.proofs.Steps.{step_kept}
use Rattle.job.specs.Books.{only_lines, Aside, AnswersChange, AnswersChoice, IsMade, found_told, Acts, Carries}
use Rattle.job.specs.PlainJobs.{PlainBook, opened, laid, told, BookSays, book_checks, AsksCall}
use Rattle.job.specs.declared.answer.Answer.{Answer}
use Rattle.job.specs.declared.answer.Answer.TheVariants.{Done, Chosen, Found}
use Rattle.job.specs.declared.fault.Fault.{Fault}
use Rattle.job.specs.declared.fault.Fault.TheVariants.{Table}
use Rattle.job.specs.declared.fault.Fault.TheVariants as fault
use Rattle.job.specs.declared.filter.Filter.{Filter}
use Rattle.job.specs.declared.filter.Filter.TheVariants.{Open, Laid}

-- a tally that is as it was at first, or all zero
module _ (first : List ℕ) where
  abbrev pub TallyIs : List ℕ → Type 0
  TallyIs tally = (tally ≡ first) ⊎ (tally ≡ zeros first)

  pub tally_long : (tally : List ℕ) → TallyIs tally → length tally ≡ length first
  tally_long tally (inl same) = ap length same
  tally_long tally (inr zero) = ap length zero ∙ length-replicate (length first) 0

  pub still : (tally after : List ℕ) → TallyIs tally → after ≡ tally → TallyIs after
  still tally after is same = subst TallyIs (sym same) is

  pub zeroed : (tally after : List ℕ) → TallyIs tally → after ≡ zeros tally → TallyIs after
  zeroed tally after is zero = inr (zero ∙ ap (λ n. replicate n 0) (tally_long tally is))

  pub refused_tally : (refusal : Refusal) (tally after : List ℕ) → TallyIs tally → after ≡ tally_left {A = Unit {0}} (Err refusal) tally → TallyIs after
  refused_tally refusal tally after is left = by_began (began refusal) left
    where
      by_began : (b : Bool) → after ≡ (if b then zeros tally else tally) → TallyIs after
      by_began true e = zeroed tally after is e
      by_began false e = still tally after is e

-- what a call leaves of the tally
module _ {Row A F : Type 0} (tell : Refusal → F) (Does : A → Type 0) (found left : Memory Row) where
  pub tally_after : (first : List ℕ) (zero : (x : A) → Does x → left.tally ≡ zeros found.tally) → TallyIs first found.tally → (v : Result (Unit {0}) Refusal) (r : Result A F) → Answers tell Does found left v r → TallyIs first left.tally
  tally_after first zero t (Ok _) (Ok x) a = zeroed first found.tally left.tally t (zero x a)
  tally_after first zero t (Ok _) (Err fault) a = absurd a
  tally_after first zero t (Err refusal) (Ok x) a = absurd a
  tally_after first zero t (Err refusal) (Err fault) a = refused_tally first refusal found.tally left.tally t a.1.tally

module _ {Header Rule Row K : Type 0} (k : Meaning Header Rule Row) (law : Lawful k) (first : Memory Row) where
  -- by the memory that is the book's own
  abbrev pub StandsAt : Filter K → Memory Row → PlainBook Rule → Type 0
  StandsAt (Open book) m (opened rules) = (length m.lines ≡ book.lines) × (rules_of k m.lines ≡ rules) × (m.area ≡ first.area)
  StandsAt (Laid table) m (laid p) = Stands k (length first.area) (moment table.shape m.lines m.area) × (plain_of k (moment table.shape m.lines m.area) ≡ p)
  StandsAt _ _ _ = ⊥

  pub record StepKept (m left : Memory Row) (p : PlainBook Rule) (call : Result (AnyCall Rule Header) Fault) (after : Filter K) (answer : Result Answer Fault) : Type 0 where
    pub next : PlainBook Rule
    pub asks : AsksCall k (length first.area) (length first.tally) p call answer next
    pub stands : StandsAt after left next
    pub tally : TallyIs first.tally left.tally
    pub long : length left.lines ≡ length m.lines

  -- of an open book
  module _ (book : OpenBook K) (m left : Memory Row) (many : length m.lines ≡ book.lines) (own : m.area ≡ first.area) (t : TallyIs first.tally m.tally) where
    abbrev rules : List (Option Rule)
    rules = rules_of k m.lines

    abbrev p : PlainBook Rule
    p = opened (rules_of k m.lines)

    abbrev checks : AnyCall Rule Header → List (Bool × Refusal)
    checks call = book_checks k (length first.area) (length first.tally) (rules_of k m.lines) call

    book_verdict : (call : AnyCall Rule Header) → verdict (lines_checks book.lines (length m.lines) ++ checks call) ≡ verdict (checks call)
    book_verdict call = verdict_behind (lines_checks book.lines (length m.lines)) (checks call) (rw (eq-eqb (length m.lines) book.lines many) refl)

    -- nothing is changed
    unchanged : (call : AnyCall Rule Header) (refusal : Refusal) (after : Filter K) (fault : TableFault)
        → fault ≡ at (line_of call) refusal → verdict (checks call) ≡ Err refusal
        → after ≡ Open book → left.lines ≡ m.lines → left.area ≡ m.area → TallyIs first.tally left.tally
        → StepKept m left p (Ok call) after (Err (Table fault))
    unchanged call refusal after fault is failed same lines area tally = record {
      next = p;
      asks = subst (λ f. BookSays k (length first.area) (length first.tally) p call (Err (Table f)) p) (sym is) (BookSays.refuses failed);
      stands = subst (λ f. StandsAt f left p) (sym same) (ap length lines ∙ many, ap (rules_of k) lines, area ∙ own);
      tally = tally;
      long = ap length lines;
    }

    -- one line is changed, or the call is refused
    module _ (line : ℕ) (o : Option Rule) (IsNew : Line Row → Type 0) (holds : (new : Line Row) → IsNew new → rule_of k new ≡ o) (call : AnyCall Rule Header) (here : line_of call ≡ line)
        (says : verdict (checks call) ≡ Ok tt → BookSays k (length first.area) (length first.tally) p call (Ok Done) (opened (slice_set rules line o))) (after : Filter K) (same : after ≡ Open book) (aside : Aside m left) where
      abbrev IsCall : Result (Unit {0}) TableFault → Type 0
      IsCall = Answers (at line) (λ (_ : Unit {0}). Replaced line IsNew m.lines left.lines) (only_lines m) (only_lines left) (verdict (lines_checks book.lines (length m.lines) ++ checks call))

      changed : (answer : Result Answer Fault) → AnswersChange IsCall answer → StepKept m left p (Ok call) after answer
      changed (Ok Done) d =
          let does = did (at line) (λ (_ : Unit {0}). Replaced line IsNew m.lines left.lines) (only_lines m) (only_lines left) _ tt d in
          let long = replaced_length k line IsNew m.lines left.lines does.1 in
          record {
            next = opened (slice_set rules line o);
            asks = says (sym (book_verdict call) ∙ does.0);
            stands = subst (λ f. StandsAt f left (opened (slice_set rules line o))) (sym same) (long ∙ many, replaced_rules k line IsNew m.lines left.lines o holds does.1, aside.area ∙ own);
            tally = still first.tally m.tally left.tally t aside.tally;
            long = long;
          }
      changed (Ok (Chosen _)) d = absurd d
      changed (Ok (Found _ _)) d = absurd d
      changed (Err (Table fault)) d =
          let was = was_refused (at line) (λ (_ : Unit {0}). Replaced line IsNew m.lines left.lines) (only_lines m) (only_lines left) _ fault d in
          unchanged call was.refusal after fault (err_one was.is ∙ ap (λ n. at n was.refusal) (sym here)) (sym (book_verdict call) ∙ was.failed) same was.kept.lines aside.area (still first.tally m.tally left.tally t aside.tally)
      changed (Err (fault.Record _)) d = absurd d
      changed (Err fault.OutOfOrder) d = absurd d
      changed (Err (fault.Routed _)) d = absurd d
      changed (Err (fault.Bridge _)) d = absurd d

    -- its table is made, or the call is refused
    module _ (asked : Asked (List ℕ → ℕ)) where
      abbrev asked_checks : (tally room : ℕ) → List (Bool × Refusal)
      asked_checks tally room = choice_checks k (rules_of k m.lines) asked.limits tally room

      run_verdict : verdict (lines_checks book.lines (length m.lines) ++ asked_checks (length m.tally) (length m.area)) ≡ verdict (checks (Choose asked))
      run_verdict =
          verdict_behind (lines_checks book.lines (length m.lines)) (asked_checks (length m.tally) (length m.area)) (rw (eq-eqb (length m.lines) book.lines many) refl)
          ∙ ap₂ (λ tally room. verdict (asked_checks tally room)) (tally_long first.tally m.tally t) (ap length own)

      made : (after : Filter K) (answer : Result Answer Fault) → IsMade k m left book asked after answer → StepKept m left p (Ok (Choose asked)) after answer
      made (Laid table) (Ok (Chosen choice)) d =
          let does = did (at 0) (λ (x : Shape × Choice). TableMade k book.lines asked m left x.0 x.1) m left _ (table.shape, choice) d in
          let is = made_is k law (start_of k book.lines asked m left) choice (moment table.shape left.lines left.area) does.1.made in
          let bits : Plain Rule = record { rules = rules_of k m.lines; bits = choice.bits } in
          record {
            next = laid bits;
            asks = BookSays.lays (sym run_verdict ∙ does.0) (subst (λ (room : ℕ). ReachesChoice k (rules_of k m.lines) room asked.judge asked.limits choice) (ap length own) is.certified.is);
            stands = (subst (λ room. Stands k room (moment table.shape left.lines left.area)) (ap length own) is.stands, is.plain);
            tally = zeroed first.tally m.tally left.tally t does.1.tally;
            long = sym (length-map left.lines (rule_of k)) ∙ ap (λ (b : Plain Rule). length b.rules) is.plain ∙ length-map m.lines (rule_of k);
          }
      made (Open after) (Err (Table fault)) d =
          let was = was_refused (at 0) (λ (x : Shape × Choice). TableMade k book.lines asked m left x.0 x.1) m left _ fault d.1 in
          unchanged (Choose asked) was.refusal (Open after) fault (err_one was.is) (sym run_verdict ∙ was.failed) (ap Open d.0) was.kept.lines was.kept.area (refused_tally first.tally was.refusal m.tally left.tally t was.kept.tally)
      made (Laid table) (Ok Done) d = absurd d
      made (Laid table) (Ok (Found _ _)) d = absurd d
      made (Laid table) (Err _) d = absurd d
      made (Open after) (Ok _) d = absurd d
      made (Open after) (Err (fault.Record _)) d = absurd d
      made (Open after) (Err fault.OutOfOrder) d = absurd d
      made (Open after) (Err (fault.Routed _)) d = absurd d
      made (Open after) (Err (fault.Bridge _)) d = absurd d

    -- any call on it
    open_kept : (call : AnyCall Rule Header) (after : Filter K) (answer : Result Answer Fault) → Acts k m left (Open book) call after answer → StepKept m left p (Ok call) after answer
    open_kept (Put line rule) after answer d = changed line (Some rule) (Holds k rule) (λ new is. is) (Put line rule) refl BookSays.puts after d.0 d.1 answer d.2
    open_kept (Strike line) after answer d = changed line None (IsEmptied m.lines line) (emptied_none k m.lines line) (Strike line) refl BookSays.strikes after d.0 d.1 answer d.2
    open_kept (Choose asked) after answer d = made asked after answer d
    open_kept (LookUp header) after answer d = absurd d

  -- of a laid table
  module _ (table : LaidTable K) (m left : Memory Row) (s : Stands k (length first.area) (moment table.shape m.lines m.area)) (t : TallyIs first.tally m.tally) where
    abbrev now : Plain Rule
    now = plain_of k (moment table.shape m.lines m.area)

    stepped : (after : LaidTable K) (call : AnyCall Rule Header) (answer : TableAnswer) → after.shape.lines ≡ table.shape.lines → TallyIs first.tally left.tally
        → Step k (moment table.shape m.lines m.area) (length m.tally) call answer (moment after.shape left.lines left.area)
        → StepKept m left (laid now) (Ok call) (Laid after) (told answer)
    stepped after call answer many tally step =
        let kept = step_kept k (length first.area) law s step in
        record {
          next = laid (plain_of k (moment after.shape left.lines left.area));
          asks = BookSays.on_table (subst (λ (n : ℕ). TableSays k (length first.area) now n call answer (plain_of k (moment after.shape left.lines left.area))) (tally_long first.tally m.tally t) kept.says);
          stands = (kept.stands, refl);
          tally = tally;
          long = kept.stands.lines ∙ many ∙ sym s.lines;
        }

    -- a put or a strike
    module _ (call : AnyCall Rule Header) (Did : Result (Unit {0}) TableFault → Type 0) (tally : (r : Result (Unit {0}) TableFault) → Did r → TallyIs first.tally left.tally)
        (step : (r : Result (Unit {0}) TableFault) → Did r → Step k (moment table.shape m.lines m.area) (length m.tally) call (of_change r) (moment table.shape left.lines left.area)) (after : Filter K) (same : after ≡ Laid table) where
      relaid_by : (r : Result (Unit {0}) TableFault) → Did r → StepKept m left (laid now) (Ok call) after (told (of_change r))
      relaid_by r d = subst (λ f. StepKept m left (laid now) (Ok call) f (told (of_change r))) (sym same) (stepped table call (of_change r) refl (tally r d) (step r d))

      relaid : (answer : Result Answer Fault) → AnswersChange Did answer → StepKept m left (laid now) (Ok call) after answer
      relaid (Ok Done) d = relaid_by (Ok tt) d
      relaid (Ok (Chosen _)) d = absurd d
      relaid (Ok (Found _ _)) d = absurd d
      relaid (Err (Table fault)) d = relaid_by (Err fault) d
      relaid (Err (fault.Record _)) d = absurd d
      relaid (Err fault.OutOfOrder) d = absurd d
      relaid (Err (fault.Routed _)) d = absurd d
      relaid (Err (fault.Bridge _)) d = absurd d

    module _ (asked : Asked (List ℕ → ℕ)) where
      abbrev Asks : LaidTable K → Result Choice TableFault → Type 0
      Asks after = ChoosesAnew k table.shape m left asked.judge asked.limits after.shape

      many_anew : (after : LaidTable K) (r : Result Choice TableFault) → Asks after r → after.shape.lines ≡ table.shape.lines
      many_anew after (Ok choice) d = (did (at 0) (Anew k table.shape m left asked.judge asked.limits after.shape) m left _ choice d.answers).1.shape.lines
      many_anew after (Err fault) d = ap (λ (x : Shape). x.lines) d.kept

      anew_by : (after : LaidTable K) (r : Result Choice TableFault) → Asks after r → StepKept m left (laid now) (Ok (Choose asked)) (Laid after) (told (of_choice r))
      anew_by after r d =
          stepped after (Choose asked) (of_choice r) (many_anew after r d)
          (tally_after (at 0) (Anew k table.shape m left asked.judge asked.limits after.shape) m left first.tally (λ x does. does.tally) t _ r d.answers)
          (Step.chooses m.tally left.tally r refl d)

      anew : (after : LaidTable K) (answer : Result Answer Fault) → AnswersChoice (Asks after) answer → StepKept m left (laid now) (Ok (Choose asked)) (Laid after) answer
      anew after (Ok (Chosen choice)) d = anew_by after (Ok choice) d
      anew after (Ok Done) d = absurd d
      anew after (Ok (Found _ _)) d = absurd d
      anew after (Err (Table fault)) d = anew_by after (Err fault) d
      anew after (Err (fault.Record _)) d = absurd d
      anew after (Err fault.OutOfOrder) d = absurd d
      anew after (Err (fault.Routed _)) d = absurd d
      anew after (Err (fault.Bridge _)) d = absurd d

    found_as_told : (r : Result (Option ℕ × ℕ) TableFault) → told (of_look_up r) ≡ found_told r
    found_as_told (Ok found) = refl
    found_as_told (Err fault) = refl

    looked : (header : Header) (answer : Result Answer Fault) → left ≡ m → answer ≡ found_told (looks_up k table.shape header m.lines m.area) → StepKept m left (laid now) (Ok (LookUp header)) (Laid table) answer
    looked header answer same is =
        let r = looks_up k table.shape header m.lines m.area in
        subst (λ a. StepKept m left (laid now) (Ok (LookUp header)) (Laid table) a) (found_as_told r ∙ sym is)
        (stepped table (LookUp header) (of_look_up r) refl (still first.tally m.tally left.tally t (ap (λ (x : Memory Row). x.tally) same))
        (subst (λ (x : Memory Row). Step k (moment table.shape m.lines m.area) (length m.tally) (LookUp header) (of_look_up r) (moment table.shape x.lines x.area)) (sym same) Step.looks))

    -- any call on it
    laid_kept : (call : AnyCall Rule Header) (after : Filter K) (answer : Result Answer Fault) → Acts k m left (Laid table) call after answer → StepKept m left (laid now) (Ok call) after answer
    laid_kept (Put line rule) after answer d =
        relaid (Put line rule) (Puts k table.shape m left (at line) line rule)
        (λ r does. tally_after (at line) (λ (_ : Unit {0}). Relaid k table.shape m left line (Holds k rule)) m left first.tally (λ x done. done.tally) t (verdict (table_put_checks k table.shape m line rule)) r does)
        (λ r does. Step.puts m.tally left.tally r refl refl does) after d.0 answer d.1
    laid_kept (Strike line) after answer d =
        relaid (Strike line) (Strikes k table.shape m left (at line) line)
        (λ r does. tally_after (at line) (λ (_ : Unit {0}). Relaid k table.shape m left line (IsEmptied m.lines line)) m left first.tally (λ x done. done.tally) t (verdict (table_strike_checks k table.shape m line)) r does)
        (λ r does. Step.strikes m.tally left.tally r refl refl does) after d.0 answer d.1
    laid_kept (Choose asked) (Laid after) answer d = anew asked after answer d
    laid_kept (Choose asked) (Open _) answer d = absurd d
    laid_kept (LookUp header) after answer d = subst (λ f. StepKept m left (laid now) (Ok (LookUp header)) f answer) (sym d.0) (looked header answer d.1 d.2)

  -- a request that was read, or refused before the book was asked
  pub carries_kept : (book : Filter K) (m left : Memory Row) (p : PlainBook Rule) → StandsAt book m p → TallyIs first.tally m.tally → (v : Result (AnyCall Rule Header) Fault) (after : Filter K) (answer : Result Answer Fault) → Carries k m left book v after answer → StepKept m left p v after answer
  carries_kept book m left p s t (Err fault) after answer d = record {
    next = p;
    asks = (d.2, refl);
    stands = subst (λ f. StandsAt f left p) (sym d.0) (subst (λ x. StandsAt book x p) (sym d.1) s);
    tally = still first.tally m.tally left.tally t (ap (λ (x : Memory Row). x.tally) d.1);
    long = ap (λ (x : Memory Row). length x.lines) d.1;
  }
  carries_kept (Open book) m left (opened own) s t (Ok call) after answer d =
      subst (λ rs. StepKept m left (opened rs) (Ok call) after answer) s.1 (open_kept book m left s.0 s.2 t call after answer d)
  carries_kept (Laid table) m left (laid plain) s t (Ok call) after answer d =
      subst (λ q. StepKept m left (laid q) (Ok call) after answer) s.1 (laid_kept table m left s.0 t call after answer d)
  carries_kept (Open book) m left (laid _) s t v after answer d = absurd s
  carries_kept (Laid table) m left (opened _) s t v after answer d = absurd s
