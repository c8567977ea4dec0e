-- A job that was read and replied to so far, record by record.
use Rattle.std.proofs.Common.{◌≡◌, inl, ℕ, ◌≤◌, List, [], ◌∷◌, ◌++◌, length, take, drop, Some, None, Ok, Err, Option, Result, IfOk, IfErr, IsErr, true, sym, refl, ap, ◌∙◌, subst, arith}
use Rattle.std.specs.Io.KnownBytes.{Appends}
use Rattle.std.proofs.lemmas.Bool.{true≢false}
use Rattle.std.proofs.lemmas.List.{length-map, append-nil, append_assoc, flat_map_more}
use Rattle.kinds.specs.Meaning.{Meaning, Lawful}
use Rattle.kinds.specs.Lines.{rule_of, rules_of}
use Rattle.kinds.specs.declared.line.Line.{Line}
use Rattle.routed.specs.Routed.{routed as routed_kind}
use Rattle.routed.specs.Law.{routed_lawful}
use Rattle.bridge.specs.Bridge.{bridge as bridge_kind}
use Rattle.bridge.specs.Law.{bridge_lawful}
use Rattle.layout.specs.Layout.{laid as laid_area}
use Rattle.table.specs.Calls.{Memory}
use Rattle.history.specs.Plain.{Plain}
use Rattle.records.specs.Requests.{request_of}
use Rattle.records.specs.Records.{Reads, Walks}
use Rattle.records.proofs.Walks.{walks_more}
use Rattle.records.specs.declared.record.Record.{Record}
use Rattle.records.specs.declared.record.CutOff.{CutOff}
use Rattle.job.specs.Jobs.{Lent, routed_in, bridge_in, Replies, Lives}
use Rattle.job.specs.PlainJobs.{PlainBook, opened, laid, PlainJob, unopened, routed, bridge, Says, Tells}
use Rattle.job.specs.Replies.{reply_text, replies_text, has_line}
use Rattle.job.specs.Runs.{lengths_of, HoldsRules, HoldsBook, Holds, Ran, RunsThrough}
use Rattle.job.specs.declared.reply.Reply.{Reply}
use Rattle.job.specs.declared.filter.Filter.{Filter}
use Rattle.job.specs.declared.filter.Filter.TheVariants.{Open, Laid}
use Rattle.job.specs.declared.machine.Machine.{Machine}
use Rattle.job.specs.declared.machine.Machine.TheVariants as job
use Rattle.job.proofs.Books.{TallyIs, still}
use Rattle.job.proofs.Jobs.{StandsBook, StandsJob, answers_kept}

-- what is appended twice is appended once
pub append_nothing : (a : Option (List ℕ)) → Appends a a []
append_nothing None = tt
append_nothing (Some xs) = sym (append-nil xs)

pub append_more : (a b c : Option (List ℕ)) (xs ys : List ℕ) → Appends a b xs → Appends b c ys → Appends a c (xs ++ ys)
append_more None b c xs ys p q = tt
append_more (Some x) None c xs ys p q = absurd p
append_more (Some x) (Some y) None xs ys p q = absurd q
append_more (Some x) (Some y) (Some z) xs ys p q = q ∙ ap (λ l. l ++ ys) p ∙ append_assoc x xs ys

module _ {Header Rule Row : Type 0} (k : Meaning Header Rule Row) (first : Memory Row) where
  rules_long : (n : ℕ) (lines : List (Line Row)) (rules : List (Option Rule)) → length (take n lines) ≡ n → rules_of k (take n lines) ≡ rules → n ≡ length rules
  rules_long n lines rules long is = sym long ∙ sym (length-map (take n lines) (rule_of k)) ∙ ap length is

  holds_rules : (n : ℕ) (m : Memory Row) (rules : List (Option Rule)) → n ≡ length rules → rules_of k (take n m.lines) ≡ rules → drop n m.lines ≡ drop n first.lines → HoldsRules k first m rules
  holds_rules n m rules long is others = record {
    lines = subst (λ c. rules_of k (take c m.lines) ≡ rules) long is;
    others = subst (λ c. drop c m.lines ≡ drop c first.lines) long others;
  }

-- a book that stands is what memory holds
module _ {Header Rule Row K : Type 0} (k : Meaning Header Rule Row) (law : Lawful k) (first : Memory Row) where
  book_holds : (book : Filter K) (m : Memory Row) (p : PlainBook Rule) → StandsBook k law first book m p → HoldsBook k first m p
  book_holds (Open book) m (opened rules) s = (holds_rules k first book.lines m rules (rules_long k first book.lines m.lines rules s.own.0 s.own.1) s.own.1 s.others, s.own.2)
  book_holds (Laid table) m (laid now) s =
      let rules = ap (λ (p : Plain Rule). p.rules) s.own.1 in (
        holds_rules k first table.shape.lines m now.rules (rules_long k first table.shape.lines m.lines now.rules s.own.0.lines rules) rules s.others,
        s.own.0.is_laid ∙ ap (λ (p : Plain Rule). laid_area k p.rules p.bits (length first.area)) s.own.1,
      )
  book_holds (Open book) m (laid now) s = absurd s.own
  book_holds (Laid table) m (opened rules) s = absurd s.own

module _ (first : Lent) (file : List ℕ) where
  job_holds : (machine : Machine) (m : Lent) (p : PlainJob) → StandsJob first machine m p → Holds first m p
  job_holds job.Unopened m unopened s = s
  job_holds (job.Routed book) m (routed p) s = (book_holds routed_kind routed_lawful (routed_in first) book (routed_in m) p s.0, s.1)
  job_holds (job.Bridge book) m (bridge p) s = (book_holds bridge_kind bridge_lawful (bridge_in first) book (bridge_in m) p s.0, s.1)
  job_holds job.Unopened m (routed _) s = absurd s
  job_holds job.Unopened m (bridge _) s = absurd s
  job_holds (job.Routed _) m unopened s = absurd s
  job_holds (job.Routed _) m (bridge _) s = absurd s
  job_holds (job.Bridge _) m unopened s = absurd s
  job_holds (job.Bridge _) m (routed _) s = absurd s

  -- one more is read, and replied to
  lives_more : (machine last next : Machine) (m left after : Lent) (reads : List (Result Record CutOff)) (replies : List Reply) (read : Result Record CutOff) (reply : Reply)
      → Lives machine m reads replies last left → Replies left after last read next reply → Lives machine m (reads ++ read ∷ []) (replies ++ reply ∷ []) next after
  lives_more machine last next m left after [] [] read reply lived d = (next, after, subst (λ j. Replies m after j read next reply) lived.0 (subst (λ x. Replies x after last read next reply) lived.1 d), (refl, refl))
  lives_more machine last next m left after (_ ∷ reads) (_ ∷ replies) read reply lived d = (lived.0, lived.1, lived.2, lives_more lived.0 last next lived.1 left after reads replies read reply lived.3 d)
  lives_more machine last next m left after [] (_ ∷ _) read reply lived d = absurd lived
  lives_more machine last next m left after (_ ∷ _) [] read reply lived d = absurd lived

  tells_more : (p q next : PlainJob) (reads : List (Result Record CutOff)) (replies : List Reply) (read : Result Record CutOff) (reply : Reply)
      → Tells (lengths_of first) p reads replies q → Says (lengths_of first) q read reply next → Tells (lengths_of first) p (reads ++ read ∷ []) (replies ++ reply ∷ []) next
  tells_more p q next [] [] read reply told says = (next, subst (λ x. Says (lengths_of first) x read reply next) told says, refl)
  tells_more p q next (_ ∷ reads) (_ ∷ replies) read reply told says = (told.0, told.1, tells_more told.0 q next reads replies read reply told.2 says)
  tells_more p q next [] (_ ∷ _) read reply told says = absurd told
  tells_more p q next (_ ∷ _) [] read reply told says = absurd told

  -- what was read and replied up to a place
  pub record SoFar (machine : Machine) (m : Lent) (at : ℕ) (replies : List Reply) : Type 0 where
    pub reads : List (Result Record CutOff)
    pub book : PlainJob
    pub walked : Walks file 0 reads at
    pub lived : Lives job.Unopened first reads replies machine m
    pub tells : Tells (lengths_of first) unopened reads replies book
    pub stands : StandsJob first machine m book
    pub tally : TallyIs first.tally m.tally

  so_far_ran : (machine : Machine) (m : Lent) (at : ℕ) (replies : List Reply) → SoFar machine m at replies → Ran first m file at replies
  so_far_ran machine m at replies s = record { reads = s.reads; walked = s.walked; machine = machine; lived = s.lived; book = s.book; tells = s.tells; holds = job_holds machine m s.book s.stands; tally = s.tally }

  nothing_read : (at : ℕ) → at ≡ 0 → SoFar job.Unopened first at []
  nothing_read at e = record { reads = []; book = unopened; walked = e; lived = (refl, refl); tells = refl; stands = (refl, refl, refl); tally = inl refl }

  record Replied (left : Lent) (p : PlainJob) (read : Result Record CutOff) (after : Machine) (reply : Reply) : Type 0 where
    next : PlainJob
    says : Says (lengths_of first) p read reply next
    stands : StandsJob first after left next
    tally : TallyIs first.tally left.tally

  reply_kept : (machine after : Machine) (m left : Lent) (p : PlainJob) → StandsJob first machine m p → TallyIs first.tally m.tally → (read : Result Record CutOff) (reply : Reply) → Replies m left machine read after reply → Replied left p read after reply
  reply_kept machine after m left p s t (Ok this) reply d =
      let kept = answers_kept first m left t machine p s (request_of this) after reply.answer d.1 in
      record { next = kept.next; says = (d.0, kept.answers); stands = kept.stands; tally = kept.tally }
  reply_kept machine after m left p s t (Err cut) reply d =
      record { next = p; says = (d.2, d.3, refl); stands = subst (λ j. StandsJob first j left p) (sym d.0) (subst (λ x. StandsJob first machine x p) (sym d.1) s); tally = still first.tally m.tally left.tally t (ap (λ (x : Lent). x.tally) d.1) }

  one_read : (machine after : Machine) (m left : Lent) (at next : ℕ) (replies : List Reply) (read : Result Record CutOff) (reply : Reply)
      → SoFar machine m at replies → Reads file at (Some read) next → Replies m left machine read after reply → SoFar after left next (replies ++ reply ∷ [])
  one_read machine after m left at next replies read reply s reads d =
      let kept = reply_kept machine after m left s.book s.stands s.tally read reply d in
      record {
        reads = s.reads ++ read ∷ [];
        book = kept.next;
        walked = walks_more file 0 at next s.reads read s.walked reads;
        lived = lives_more job.Unopened machine after first m left s.reads replies read reply s.lived d;
        tells = tells_more unopened s.book kept.next s.reads replies read reply s.tells kept.says;
        stands = kept.stands;
        tally = kept.tally;
      }

  -- and printed
  pub record Printed (before : Option (List ℕ)) (machine : Machine) (m : Lent) (at : ℕ) (after : Option (List ℕ)) : Type 0 where
    pub replies : List Reply
    pub so_far : SoFar machine m at replies
    pub text : Appends before after (replies_text replies)

  pub nothing_printed : (before : Option (List ℕ)) (at : ℕ) → at ≡ 0 → Printed before job.Unopened first at before
  nothing_printed before at e = record { replies = []; so_far = nothing_read at e; text = append_nothing before }

  no_print : {E : Type 0} (P : Unit {0} → Type 0) (r : Result (Unit {0}) E) → IsErr r → IfOk r P
  no_print P (Ok _) failed = absurd (true≢false (sym failed))
  no_print P (Err _) failed = tt

  if_failed : {E : Type 0} (P : Type 0) (r : Result (Unit {0}) E) → P → IfErr r (λ _. P)
  if_failed P (Ok _) p = tt
  if_failed P (Err _) p = p

  -- by a reader of the job
  abbrev pub WalksIn : List ℕ → ℕ → Option (Result Record CutOff) → ℕ → Type 0
  WalksIn bytes at read then = (bytes ≡ file) × Reads bytes at read then

  reads_file : (bytes : List ℕ) (at : ℕ) (read : Option (Result Record CutOff)) (then : ℕ) → WalksIn bytes at read then → Reads file at read then
  reads_file bytes at read then w = subst (λ f. Reads f at read then) w.0 w.1

  module _ (before so_far_out : Option (List ℕ)) (machine next : Machine) (m left : Lent) (at then : ℕ) (read : Result Record CutOff) (reply : Reply)
      (s : Printed before machine m at so_far_out) (bytes : List ℕ) (walks : WalksIn bytes at (Some read) then) (d : Replies m left machine read next reply) where
    replied : SoFar next left then (s.replies ++ reply ∷ [])
    replied = one_read machine next m left at then s.replies read reply s.so_far (reads_file bytes at (Some read) then walks) d

    pub one_printed : (after : Option (List ℕ)) → Appends so_far_out after (reply_text reply) → Printed before next left then after
    one_printed after wrote = record {
      replies = s.replies ++ reply ∷ [];
      so_far = replied;
      text = subst (Appends before after) (flat_map_more reply_text [] s.replies reply) (append_more before so_far_out after (replies_text s.replies) (reply_text reply) s.text wrote);
    }

    -- printing the line failed
    pub not_printed : {E : Type 0} (after : Option (List ℕ)) (r : Result (Unit {0}) E) → IsErr r → has_line reply ≡ true → RunsThrough first left file before after r
    not_printed after r failed line = record {
      at = then;
      replies = s.replies ++ reply ∷ [];
      ran = so_far_ran next left then (s.replies ++ reply ∷ []) replied;
      all = no_print _ r failed;
      failed = if_failed _ r (s.replies, reply, refl, line);
    }

  -- all is read
  pub all_printed : {E : Type 0} (before after : Option (List ℕ)) (machine : Machine) (m : Lent) (at : ℕ) → Printed before machine m at after → at ≤ length file → (bytes : List ℕ) (then : ℕ) → WalksIn bytes at None then → RunsThrough first m file {E = E} before after (Ok tt)
  all_printed before after machine m at s inside bytes then w = record { at = at; replies = s.replies; ran = so_far_ran machine m at s.replies s.so_far; all = (omega (arith, inside, (reads_file bytes at None then w).0), s.text); failed = tt }
