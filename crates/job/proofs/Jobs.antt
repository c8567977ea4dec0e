-- A job that stands: what its machine is, and what the lent memory holds, are a plain job's. A record leaves such a job, and the plain job says the same.
use Rattle.std.proofs.Common.{◌≡◌, ℕ, ◌≤◌, Bool, true, false, List, [], ◌∷◌, length, map, take, drop, replicate, None, Ok, Err, Result, sym, refl, ap, ◌∙◌, subst, arith}
use Rattle.std.proofs.lemmas.Bool.{ltb-false}
use Rattle.std.proofs.lemmas.List.{length-map, length-take}
use Rattle.kinds.specs.Meaning.{Meaning, Lawful}
use Rattle.kinds.specs.Lines.{rules_of}
use Rattle.kinds.specs.declared.line.Line.{Line}
use Rattle.routed.specs.Routed.{routed as routed_kind}
use Rattle.routed.specs.Law.{routed_lawful}
use Rattle.bridge.specs.Bridge.{bridge as bridge_kind}
use Rattle.bridge.specs.Law.{bridge_lawful}
use Rattle.table.specs.Refusals.{at}
use Rattle.table.specs.Checks.{verdict}
use Rattle.table.specs.Lines.{emptied}
use Rattle.table.specs.Calls.{Memory, memory}
use Rattle.table.specs.declared.refusal.Refusal.{Refusal}
use Rattle.table.specs.declared.refusal.Fault.{Fault as TableFault}
use Rattle.table.proofs.Calls.{all_pass, err_one, err_ok}
use Rattle.history.proofs.Answers.{did, was_refused}
use Rattle.records.specs.declared.refusal.Refusal.{Refusal as RecordRefusal}
use Rattle.records.specs.declared.request.Request.{Request}
use Rattle.records.specs.declared.request.Request.TheVariants as request
use Rattle.job.specs.Readings.{Reading, routed_reading, bridge_reading}
use Rattle.job.specs.Books.{is_laid, call_in, lines_of, open_checks, IsOpened}
use Rattle.job.specs.Jobs.{Lent, own_of, routed_in, bridge_in, Serves, OpensRouted, OpensBridge, Steps, AnswersTo}
use Rattle.job.specs.PlainJobs.{Lengths, PlainBook, opened, laid, has_table, AsksCall, AsksBook, PlainJob, unopened, routed, bridge, empty, Opens, PlainAnswers}
use Rattle.job.specs.Runs.{lengths_of}
use Rattle.job.specs.declared.answer.Answer.{Answer}
use Rattle.job.specs.declared.answer.Answer.TheVariants.{Done, Chosen, Found}
use Rattle.job.specs.declared.fault.Fault.{Fault}
use Rattle.job.specs.declared.fault.Fault.TheVariants as fault
use Rattle.job.specs.declared.filter.Filter.{Filter}
use Rattle.job.specs.declared.filter.Filter.TheVariants.{Open, Laid}
use Rattle.job.specs.declared.machine.Machine.{Machine}
use Rattle.job.specs.declared.machine.Machine.TheVariants as job
use Rattle.job.proofs.Books.{TallyIs, still, StandsAt, carries_kept}

-- lines that were emptied hold no rule
pub emptied_rules : {Header Rule Row : Type 0} (k : Meaning Header Rule Row) (lines : List (Line Row)) → rules_of k (map emptied lines) ≡ replicate (length lines) None
emptied_rules k [] = refl
emptied_rules k (line ∷ lines) = ap (λ rules. None ∷ rules) (emptied_rules k lines)

module _ {Header Rule Row K : Type 0} (k : Meaning Header Rule Row) (law : Lawful k) (first : Memory Row) where
  pub record StandsBook (book : Filter K) (m : Memory Row) (p : PlainBook Rule) : Type 0 where
    pub own : StandsAt k law first book (own_of (lines_of book) m) p
    pub others : drop (lines_of book) m.lines ≡ drop (lines_of book) first.lines

  stands_table : (book : Filter K) (m : Memory Row) (p : PlainBook Rule) → StandsAt k law first book m p → has_table p ≡ is_laid book
  stands_table (Open _) m (opened _) s = refl
  stands_table (Laid _) m (laid _) s = refl
  stands_table (Open _) m (laid _) s = absurd s
  stands_table (Laid _) m (opened _) s = absurd s

  stands_lines : (book : Filter K) (m : Memory Row) (p : PlainBook Rule) → StandsAt k law first book m p → length m.lines ≡ lines_of book
  stands_lines (Open _) m (opened _) s = s.0
  stands_lines (Laid _) m (laid _) s = s.0.lines
  stands_lines (Open _) m (laid _) s = absurd s
  stands_lines (Laid _) m (opened _) s = absurd s

  pub record BookKept (left : Memory Row) (p : PlainBook Rule) (reading : Reading Header Rule Row) (request : Request) (after : Filter K) (answer : Result Answer Fault) : Type 0 where
    pub next : PlainBook Rule
    pub asks : AsksBook k (length first.area) (length first.tally) reading p request answer next
    pub stands : StandsBook after left next
    pub tally : TallyIs first.tally left.tally

  pub serve_kept : (reading : Reading Header Rule Row) (m left : Memory Row) (book after : Filter K) (p : PlainBook Rule) (request : Request) (answer : Result Answer Fault)
      → StandsBook book m p → TallyIs first.tally m.tally → Serves k reading m left book request after answer → BookKept left p reading request after answer
  serve_kept reading m left book after p request answer s t serves =
      let n = lines_of book in
      let kept = carries_kept k law first book (own_of n m) (own_of n left) p s.own t (call_in reading (is_laid book) request) after answer serves.takes in
      let many : lines_of after ≡ n = sym (stands_lines after (own_of n left) kept.next kept.stands) ∙ kept.long ∙ stands_lines book (own_of n m) p s.own in
      record {
        next = kept.next;
        asks = subst (λ b. AsksCall k (length first.area) (length first.tally) p (call_in reading b request) answer kept.next) (sym (stands_table book (own_of n m) p s.own)) kept.asks;
        stands = record {
          own = subst (λ c. StandsAt k law first after (own_of c left) kept.next) (sym many) kept.stands;
          others = subst (λ c. drop c left.lines ≡ drop c first.lines) (sym many) (serves.others ∙ s.others);
        };
        tally = kept.tally;
      }

  -- a book that was opened is empty
  open_stands : (count : ℕ) (book : Filter K) (found left : List (Line Row)) (area tally : List ℕ) → is_laid book ≡ false → lines_of book ≡ count → count ≤ length found → take count left ≡ map emptied (take count found) → area ≡ first.area
      → StandsAt k law first book (own_of (lines_of book) (memory left area tally)) (empty count)
  open_stands count (Laid _) found left area tally shut many few own same = absurd (let z : ◌≡◌ {A = Bool} true false = shut in cc)
  open_stands count (Open book) found left area tally shut many few own same =
      let lines : take book.lines left ≡ map emptied (take count found) = ap (λ n. take n left) many ∙ own in
      let long : length (take count found) ≡ count = omega (arith, length-take count found, few) in (
        ap length lines ∙ length-map (take count found) emptied ∙ long ∙ sym many,
        ap (rules_of k) lines ∙ emptied_rules k (take count found) ∙ ap (λ n. replicate n None) long,
        same,
      )

  pub opened_kept : (count : ℕ) (book : Filter K) (m left : Memory Row) → m.lines ≡ first.lines → m.area ≡ first.area → left.area ≡ m.area → IsOpened count m.lines left.lines (Ok book)
      → (verdict (open_checks count (length first.lines)) ≡ Ok tt) × StandsBook book left (empty count)
  opened_kept count book m left lines area same d =
      let does = did (at 0) (λ (b : Filter K). (is_laid b ≡ false) × (lines_of b ≡ count) × (take count left.lines ≡ map emptied (take count m.lines)) × (drop count left.lines ≡ drop count m.lines)) (memory m.lines [] []) (memory left.lines [] []) (verdict (open_checks count (length m.lines))) book d in
      let few = ltb-false (length m.lines) count (all_pass (open_checks count (length m.lines)) does.0).0 in (
        subst (λ ls. verdict (open_checks count (length ls)) ≡ Ok tt) lines does.0,
        record {
          own = open_stands count book m.lines left.lines left.area left.tally does.1.0 does.1.1 few does.1.2 (same ∙ area);
          others = subst (λ n. drop n left.lines ≡ drop n first.lines) (sym does.1.1) (does.1.3 ∙ ap (drop count) lines);
        },
      )

refused_kept : {Row : Type 0} (K : Type 0) (first m left : Memory Row) (count : ℕ) (fault : TableFault) → m.lines ≡ first.lines → IsOpened {K = K} count m.lines left.lines (Err fault)
    → (refusal : Refusal) × (verdict (open_checks count (length first.lines)) ≡ Err refusal) × (fault ≡ at 0 refusal) × (left.lines ≡ m.lines)
refused_kept K first m left count fault lines d =
    let was = was_refused (at 0) (λ (b : Filter K). (is_laid b ≡ false) × (lines_of b ≡ count) × (take count left.lines ≡ map emptied (take count m.lines)) × (drop count left.lines ≡ drop count m.lines)) (memory m.lines [] []) (memory left.lines [] []) (verdict (open_checks count (length m.lines))) fault d in
    (was.refusal, subst (λ ls. verdict (open_checks count (length ls)) ≡ Err was.refusal) lines was.failed, err_one was.is, was.kept.lines)

opens_ok : (v : Result (Unit {0}) Refusal) (m : Lengths) (book : PlainJob) → v ≡ Ok tt → Opens m v book (Ok Done) book
opens_ok (Ok _) m book e = (refl, refl)
opens_ok (Err refusal) m book e = absurd (err_ok e)

opens_err : (v : Result (Unit {0}) Refusal) (m : Lengths) (book : PlainJob) (refusal : Refusal) (found : TableFault) → v ≡ Err refusal → found ≡ at 0 refusal → Opens m v book (Err (fault.Table found)) unopened
opens_err (Ok _) m book refusal found e is = absurd (err_ok (sym e))
opens_err (Err own) m book refusal found e is = (ap (λ f. Err (fault.Table f)) (is ∙ ap (at 0) (sym (err_one e))), refl)

module _ (first : Lent) where
  abbrev pub StandsJob : Machine → Lent → PlainJob → Type 0
  StandsJob job.Unopened m unopened = (m.routed ≡ first.routed) × (m.bridge ≡ first.bridge) × (m.area ≡ first.area)
  StandsJob (job.Routed book) m (routed p) = StandsBook routed_kind routed_lawful (routed_in first) book (routed_in m) p × (m.bridge ≡ first.bridge)
  StandsJob (job.Bridge book) m (bridge p) = StandsBook bridge_kind bridge_lawful (bridge_in first) book (bridge_in m) p × (m.routed ≡ first.routed)
  StandsJob _ _ _ = ⊥

  pub record JobKept (left : Lent) (p : PlainJob) (v : Result Request RecordRefusal) (after : Machine) (answer : Result Answer Fault) : Type 0 where
    pub next : PlainJob
    pub answers : PlainAnswers (lengths_of first) p v answer next
    pub stands : StandsJob after left next
    pub tally : TallyIs first.tally left.tally

  module _ (m left : Lent) (t : TallyIs first.tally m.tally) where
    module _ (s : StandsJob job.Unopened m unopened) (count : ℕ) where
      opens_routed : (after : Machine) (answer : Result Answer Fault) → OpensRouted m left count after answer → JobKept left unopened (Ok (request.OpenRouted count)) after answer
      opens_routed (job.Routed book) (Ok Done) d =
          let kept = opened_kept routed_kind routed_lawful (routed_in first) count book (routed_in m) (routed_in left) s.0 s.2 d.2.area d.0 in
          record { next = routed (empty count); answers = opens_ok _ (lengths_of first) (routed (empty count)) kept.0; stands = (kept.1, d.1 ∙ s.1); tally = still first.tally m.tally left.tally t d.2.tally }
      opens_routed job.Unopened (Err (fault.Table found)) d =
          let kept = refused_kept _ (routed_in first) (routed_in m) (routed_in left) count found s.0 d.0 in
          record { next = unopened; answers = opens_err _ (lengths_of first) (routed (empty count)) kept.0 found kept.1 kept.2; stands = (kept.3 ∙ s.0, d.1 ∙ s.1, d.2.area ∙ s.2); tally = still first.tally m.tally left.tally t d.2.tally }
      opens_routed (job.Routed _) (Ok (Chosen _)) d = absurd d
      opens_routed (job.Routed _) (Ok (Found _ _)) d = absurd d
      opens_routed (job.Routed _) (Err _) d = absurd d
      opens_routed job.Unopened (Ok _) d = absurd d
      opens_routed job.Unopened (Err (fault.Record _)) d = absurd d
      opens_routed job.Unopened (Err fault.OutOfOrder) d = absurd d
      opens_routed job.Unopened (Err (fault.Routed _)) d = absurd d
      opens_routed job.Unopened (Err (fault.Bridge _)) d = absurd d
      opens_routed (job.Bridge _) answer d = absurd d

      opens_bridge : (after : Machine) (answer : Result Answer Fault) → OpensBridge m left count after answer → JobKept left unopened (Ok (request.OpenBridge count)) after answer
      opens_bridge (job.Bridge book) (Ok Done) d =
          let kept = opened_kept bridge_kind bridge_lawful (bridge_in first) count book (bridge_in m) (bridge_in left) s.1 s.2 d.2.area d.0 in
          record { next = bridge (empty count); answers = opens_ok _ (lengths_of first) (bridge (empty count)) kept.0; stands = (kept.1, d.1 ∙ s.0); tally = still first.tally m.tally left.tally t d.2.tally }
      opens_bridge job.Unopened (Err (fault.Table found)) d =
          let kept = refused_kept _ (bridge_in first) (bridge_in m) (bridge_in left) count found s.1 d.0 in
          record { next = unopened; answers = opens_err _ (lengths_of first) (bridge (empty count)) kept.0 found kept.1 kept.2; stands = (d.1 ∙ s.0, kept.3 ∙ s.1, d.2.area ∙ s.2); tally = still first.tally m.tally left.tally t d.2.tally }
      opens_bridge (job.Bridge _) (Ok (Chosen _)) d = absurd d
      opens_bridge (job.Bridge _) (Ok (Found _ _)) d = absurd d
      opens_bridge (job.Bridge _) (Err _) d = absurd d
      opens_bridge job.Unopened (Ok _) d = absurd d
      opens_bridge job.Unopened (Err (fault.Record _)) d = absurd d
      opens_bridge job.Unopened (Err fault.OutOfOrder) d = absurd d
      opens_bridge job.Unopened (Err (fault.Routed _)) d = absurd d
      opens_bridge job.Unopened (Err (fault.Bridge _)) d = absurd d
      opens_bridge (job.Routed _) answer d = absurd d

    stays : (machine : Machine) (p : PlainJob) → StandsJob machine m p → (after : Machine) → after ≡ machine → left ≡ m → StandsJob after left p
    stays machine p s after same is = subst (λ j. StandsJob j left p) (sym same) (subst (λ x. StandsJob machine x p) (sym is) s)

    -- a request that can't be served before anything is open
    too_early : (v : Request) (after : Machine) (answer : Result Answer Fault) → StandsJob job.Unopened m unopened → PlainAnswers (lengths_of first) unopened (Ok v) (Err fault.OutOfOrder) unopened → (after ≡ job.Unopened) × (left ≡ m) × (answer ≡ Err fault.OutOfOrder) → JobKept left unopened (Ok v) after answer
    too_early v after answer s says d = record {
      next = unopened;
      answers = subst (λ a. PlainAnswers (lengths_of first) unopened (Ok v) a unopened) (sym d.2) says;
      stands = stays job.Unopened unopened s after d.0 d.1;
      tally = still first.tally m.tally left.tally t (ap (λ (x : Lent). x.tally) d.1);
    }

    steps_kept : (machine : Machine) (p : PlainJob) → StandsJob machine m p → (v : Request) (after : Machine) (answer : Result Answer Fault) → Steps m left machine v after answer → JobKept left p (Ok v) after answer
    steps_kept job.Unopened unopened s (request.OpenRouted count) after answer d = opens_routed s count after answer d
    steps_kept job.Unopened unopened s (request.OpenBridge count) after answer d = opens_bridge s count after answer d
    steps_kept job.Unopened unopened s (request.Put line row) after answer d = too_early (request.Put line row) after answer s (refl, refl) d
    steps_kept job.Unopened unopened s (request.Strike line) after answer d = too_early (request.Strike line) after answer s (refl, refl) d
    steps_kept job.Unopened unopened s (request.Choose judge limits) after answer d = too_early (request.Choose judge limits) after answer s (refl, refl) d
    steps_kept job.Unopened unopened s (request.LookUp packet) after answer d = too_early (request.LookUp packet) after answer s (refl, refl) d
    steps_kept (job.Routed book) (routed p) s v (job.Routed after) answer d =
        let kept = serve_kept routed_kind routed_lawful (routed_in first) routed_reading (routed_in m) (routed_in left) book after p v answer s.0 t d.0 in
        record { next = routed kept.next; answers = (kept.next, kept.asks, refl); stands = (kept.stands, d.1 ∙ s.1); tally = kept.tally }
    steps_kept (job.Bridge book) (bridge p) s v (job.Bridge after) answer d =
        let kept = serve_kept bridge_kind bridge_lawful (bridge_in first) bridge_reading (bridge_in m) (bridge_in left) book after p v answer s.0 t d.0 in
        record { next = bridge kept.next; answers = (kept.next, kept.asks, refl); stands = (kept.stands, d.1 ∙ s.1); tally = kept.tally }
    steps_kept job.Unopened (routed _) s v after answer d = absurd s
    steps_kept job.Unopened (bridge _) s v after answer d = absurd s
    steps_kept (job.Routed _) unopened s v after answer d = absurd s
    steps_kept (job.Routed _) (bridge _) s v after answer d = absurd s
    steps_kept (job.Routed _) (routed _) s v job.Unopened answer d = absurd d
    steps_kept (job.Routed _) (routed _) s v (job.Bridge _) answer d = absurd d
    steps_kept (job.Bridge _) unopened s v after answer d = absurd s
    steps_kept (job.Bridge _) (routed _) s v after answer d = absurd s
    steps_kept (job.Bridge _) (bridge _) s v job.Unopened answer d = absurd d
    steps_kept (job.Bridge _) (bridge _) s v (job.Routed _) answer d = absurd d

    pub answers_kept : (machine : Machine) (p : PlainJob) → StandsJob machine m p → (v : Result Request RecordRefusal) (after : Machine) (answer : Result Answer Fault) → AnswersTo m left machine v after answer → JobKept left p v after answer
    answers_kept machine p s (Ok v) after answer d = steps_kept machine p s v after answer d
    answers_kept machine p s (Err refusal) after answer d = record {
      next = p;
      answers = (d.2, refl);
      stands = stays machine p s after d.0 d.1;
      tally = still first.tally m.tally left.tally t (ap (λ (x : Lent). x.tally) d.1);
    }
