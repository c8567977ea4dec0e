-- One call on a table that stands: it leaves a table that stands, and the plain book says the same.
use Rattle.std.proofs.Common.{◌≡◌, ℕ, Bool, List, [], ◌++◌, length, Some, None, Ok, Err, Option, Result, IfErr, slice_set, sym, refl, ap, ap₂, ◌∙◌, subst, inl, inr}
use Rattle.std.proofs.lemmas.Bool.{ltb-false}
use Rattle.bits.specs.Chosen.{IsBits}
use Rattle.kinds.specs.Meaning.{Meaning, Lawful}
use Rattle.kinds.specs.Lines.{rules_of}
use Rattle.kinds.specs.declared.line.Line.{Line}
use Rattle.blocks.specs.Blocks.{table_size, Fits}
use Rattle.choice.specs.Choice.{IsChoice}
use Rattle.choice.specs.declared.choice.Choice.{Choice}
use Rattle.choice.proofs.Whole.{bits_reached, bits_set}
use Rattle.layout.specs.LookUp.{FindsLowest}
use Rattle.table.specs.Refusals.{at}
use Rattle.table.specs.Checks.{verdict, memory_checks, put_checks, strike_checks, room_checks, choice_checks}
use Rattle.table.specs.Lines.{Holds, IsEmptied}
use Rattle.table.specs.Calls.{Untouched, Relaid, laid_for, table_put_checks, table_strike_checks, Puts, Strikes, Anew, ChoosesAnew, looks_up}
use Rattle.table.specs.declared.refusal.Refusal.{Refusal}
use Rattle.table.specs.declared.refusal.Fault.{Fault}
use Rattle.table.specs.declared.shape.Shape.{Shape}
use Rattle.table.proofs.Calls.{all_pass, verdict_behind, err_ok}
use Rattle.table.proofs.Lines.{emptied_none}
use Rattle.history.specs.Turns.{AnyCall, line_of, of_change, of_choice, of_look_up}
use Rattle.history.specs.Plain.{Plain, plain_checks, with_rule, with_bits, Says}
use Rattle.history.specs.Histories.{Moment, lending, Step}
use Rattle.history.specs.Facts.{plain_of}
use Rattle.history.specs.declared.turn.Asked.{Asked}
use Rattle.history.specs.declared.turn.Call.TheVariants.{Put, Strike, Choose, LookUp}
use Rattle.history.specs.declared.turn.Answer.{Answer}
use Rattle.history.specs.declared.turn.Answer.TheVariants.{Refused}
use Rattle.history.proofs.Answers.{cases}
use Rattle.history.proofs.Standing.{Stands, own_memory, stands_finds, replaced_rules, replaced_length, relaid_stands}

module _ {Header Rule Row : Type 0} (k : Meaning Header Rule Row) (room : ℕ) where
  -- what one call on a table that stands owes
  pub record Kept (found : Moment Row) (tally : ℕ) (call : AnyCall Rule Header) (answer : Answer) (left : Moment Row) : Type 0 where
    pub stands : Stands k room left
    pub says : Says k room (plain_of k found) tally call answer (plain_of k left)

  -- the table's own memory passes, so the verdict is the plain book's
  same_verdict : (found : Moment Row) (tally : ℕ) (before : List ℕ) (checks : ℕ → ℕ → List (Bool × Refusal)) → Stands k room found → length before ≡ tally
      → verdict (memory_checks found.table (length found.lines) (length found.area) ++ checks (length before) (length found.area)) ≡ verdict (checks tally room)
  same_verdict found tally before checks s long =
      verdict_behind (memory_checks found.table (length found.lines) (length found.area)) (checks (length before) (length found.area)) (own_memory k found.table (length found.lines) (length found.area) s.lines s.area)
      ∙ ap₂ (λ t n. verdict (checks t n)) long s.long

  moment_is : (found left : Moment Row) → left.lines ≡ found.lines → left.area ≡ found.area → left.table ≡ found.table → left ≡ found
  moment_is found left lines area table i = record { table = table i; lines = lines i; area = area i }

  -- a call that was refused
  refused : (found left : Moment Row) (tally : ℕ) (before after : List ℕ) (call : AnyCall Rule Header) (refusal : Refusal) → Stands k room found
      → left.table ≡ found.table → Untouched refusal (lending found before) (lending left after)
      → verdict (plain_checks k room (plain_of k found) tally call) ≡ Err refusal
      → Kept found tally call (Refused (at (line_of call) refusal)) left
  refused found left tally before after call refusal s table kept failed =
      let same = moment_is found left kept.lines kept.area table in
      record {
        stands = subst (Stands k room) (sym same) s;
        says = subst (λ m. Says k room (plain_of k found) tally call (Refused (at (line_of call) refusal)) (plain_of k m)) (sym same) (Says.refuses failed);
      }

  -- a put or a strike, by the rule that its line then has, or none
  module _ (found left : Moment Row) (tally : ℕ) (before after : List ℕ) (line : ℕ) (IsNew : Line Row → Type 0) (o : Option Rule) where
    -- the table of the lines that are left fits
    changed : Stands k room found → left.table ≡ found.table → rules_of k left.lines ≡ slice_set (rules_of k found.lines) line o
        → Fits k (slice_set (rules_of k found.lines) line o) found.table.bits room
        → Relaid k found.table (lending found before) (lending left after) line IsNew
        → Stands k room left × (plain_of k left ≡ with_rule (plain_of k found) line o)
    changed s table rules_are fits r = (
      relaid_stands k room found left s (replaced_length k line IsNew found.lines left.lines r.lines) (ap (λ (t : Shape). t.lines) table) (ap (λ (t : Shape). t.area) table) (subst (λ (t : Shape). IsBits t.bits) (sym table) s.bits)
          (r.area ∙ ap (λ (t : Shape). laid_for k t left.lines found.area) (sym table))
          (subst (λ rs. Fits k rs left.table.bits room) (sym rules_are) (subst (λ (t : Shape). Fits k (slice_set (rules_of k found.lines) line o) t.bits room) (sym table) fits)),
      ap₂ (λ rs (t : Shape). record { rules = rs; bits = t.bits }) rules_are table,
    )

  says_as : {p q next : Plain Rule} {tally : ℕ} {call : AnyCall Rule Header} {a answer : Answer} → answer ≡ a → next ≡ q → Says k room p tally call a q → Says k room p tally call answer next
  says_as {p} {next = next} {tally} {call} {a} is book says = subst (λ x. Says k room p tally call x next) (sym is) (subst (λ x. Says k room p tally call a x) (sym book) says)

  kept_as : {found left : Moment Row} {tally : ℕ} {call : AnyCall Rule Header} {a answer : Answer} → answer ≡ a → Kept found tally call a left → Kept found tally call answer left
  kept_as is kept = record { stands = kept.stands; says = says_as is refl kept.says }

  module _ (found left : Moment Row) (tally : ℕ) (before after : List ℕ) (s : Stands k room found) (long : length before ≡ tally) where
    put_kept : (line : ℕ) (rule : Rule) (result : Result (Unit {0}) Fault) → left.table ≡ found.table → Puts k found.table (lending found before) (lending left after) (at line) line rule result → Kept found tally (Put line rule) (of_change result) left
    put_kept line rule result table call =
        let rules = rules_of k found.lines in
        let same = same_verdict found tally before (λ t n. put_checks rules line ++ room_checks k (slice_set rules line (Some rule)) found.table.bits t n) s long in
        elim (cases (at line) (λ (_ : Unit {0}). Relaid k found.table (lending found before) (lending left after) line (Holds k rule)) (lending found before) (lending left after) (verdict (table_put_checks k found.table (lending found before) line rule)) result call) [
          | inl did ↦ (
              let passed = sym same ∙ did.passed in
              let fits = ltb-false room (table_size k (slice_set rules line (Some rule)) found.table.bits) (all_pass (plain_checks k room (plain_of k found) tally (Put line rule)) passed).1.1.0 in
              let next = changed found left tally before after line (Holds k rule) (Some rule) s table (replaced_rules k line (Holds k rule) found.lines left.lines (Some rule) (λ new holds. holds) did.does.lines) fits did.does in
              record { stands = next.0; says = says_as (ap of_change did.is) next.1 (Says.puts passed) })
          | inr was ↦ kept_as (ap of_change was.is) (refused found left tally before after (Put line rule) was.refusal s table was.kept (sym same ∙ was.failed))
        ]

    strike_kept : (line : ℕ) (result : Result (Unit {0}) Fault) → left.table ≡ found.table → Strikes k found.table (lending found before) (lending left after) (at line) line result → Kept found tally (Strike line) (of_change result) left
    strike_kept line result table call =
        let rules = rules_of k found.lines in
        let same = same_verdict found tally before (λ t n. strike_checks rules line ++ room_checks k (slice_set rules line None) found.table.bits t n) s long in
        elim (cases (at line) (λ (_ : Unit {0}). Relaid k found.table (lending found before) (lending left after) line (IsEmptied found.lines line)) (lending found before) (lending left after) (verdict (table_strike_checks k found.table (lending found before) line)) result call) [
          | inl did ↦ (
              let passed = sym same ∙ did.passed in
              let fits = ltb-false room (table_size k (slice_set rules line None) found.table.bits) (all_pass (plain_checks k room (plain_of k found) tally (Strike line)) passed).1.1.1.0 in
              let next = changed found left tally before after line (IsEmptied found.lines line) None s table (replaced_rules k line (IsEmptied found.lines line) found.lines left.lines None (emptied_none k found.lines line) did.does.lines) fits did.does in
              record { stands = next.0; says = says_as (ap of_change did.is) next.1 (Says.strikes passed) })
          | inr was ↦ kept_as (ap of_change was.is) (refused found left tally before after (Strike line) was.refusal s table was.kept (sym same ∙ was.failed))
        ]

    -- a refusal leaves the table as it was
    err_kept : {A F : Type 0} (r : Result A F) (fault : F) (P : Type 0) → IfErr r (λ _. P) → r ≡ Err fault → P
    err_kept (Ok _) fault P p is = absurd (err_ok (sym is))
    err_kept (Err _) fault P p is = p

    choose_kept : Lawful k → (asked : Asked (List ℕ → ℕ)) (result : Result Choice Fault) → ChoosesAnew k found.table (lending found before) (lending left after) asked.judge asked.limits left.table result → Kept found tally (Choose asked) (of_choice result) left
    choose_kept law asked result call =
        let rules = rules_of k found.lines in
        let same = same_verdict found tally before (λ t n. choice_checks k rules asked.limits t n) s long in
        elim (cases (at 0) (Anew k found.table (lending found before) (lending left after) asked.judge asked.limits left.table) (lending found before) (lending left after) _ result call.answers) [
          | inl did ↦ (
              let passed = sym same ∙ did.passed in
              let allowed = all_pass (plain_checks k room (plain_of k found) tally (Choose asked)) passed in
              let none = ltb-false room (table_size k rules []) allowed.1.1.0 in
              let choice : IsChoice k rules room asked.judge asked.limits did.answer = subst (λ (n : ℕ). IsChoice k rules n asked.judge asked.limits did.answer) s.long did.does.choice in
              let reached = bits_reached k rules room asked.judge asked.limits did.answer none choice in
              let bits = subst IsBits (sym did.does.shape.bits) (bits_set k rules room asked.judge law asked.limits did.answer allowed.0 none choice) in
              let fits : Fits k (rules_of k left.lines) left.table.bits room = subst (λ bits. Fits k (rules_of k left.lines) bits room) (sym did.does.shape.bits) (subst (λ ls. Fits k (rules_of k ls) did.answer.bits room) (sym did.does.lines) reached.fits) in
              let area = did.does.area ∙ ap (λ ls. laid_for k left.table ls found.area) (sym did.does.lines) in
              record {
                stands = relaid_stands k room found left s (ap length did.does.lines) did.does.shape.lines did.does.shape.area bits area fits;
                says = says_as {q = with_bits (plain_of k found) did.answer.bits} (ap of_choice did.is) (ap₂ (λ ls bits. record { rules = rules_of k ls; bits = bits }) did.does.lines did.does.shape.bits) (Says.chooses passed choice);
              })
          | inr was ↦ kept_as (ap of_choice was.is) (refused found left tally before after (Choose asked) was.refusal s (err_kept result (at 0 was.refusal) (left.table ≡ found.table) call.kept was.is) was.kept (sym same ∙ was.failed))
        ]

  look_kept : Lawful k → (found : Moment Row) (tally : ℕ) (header : Header) → Stands k room found → (r : Result (Option ℕ × ℕ) Fault) → FindsLowest k (rules_of k found.lines) found.table.bits header r → Kept found tally (LookUp header) (of_look_up r) found
  look_kept law found tally header s (Ok answer) finds = record { stands = s; says = Says.looks_up finds }
  look_kept law found tally header s (Err fault) finds = absurd finds

  -- every call
  pub step_kept : Lawful k → {found left : Moment Row} {tally : ℕ} {call : AnyCall Rule Header} {answer : Answer} → Stands k room found → Step k found tally call answer left → Kept found tally call answer left
  step_kept law {found} {left} {tally} s (Step.puts {line} {rule} before after result long table call) = put_kept found left tally before after s long line rule result table call
  step_kept law {found} {left} {tally} s (Step.strikes {line} before after result long table call) = strike_kept found left tally before after s long line result table call
  step_kept law {found} {left} {tally} s (Step.chooses {asked} before after result long call) = choose_kept found left tally before after s long law asked result call
  step_kept law {found} {tally = tally} s (Step.looks {header}) = look_kept law found tally header s (looks_up k found.table header found.lines found.area) (stands_finds k law room found s header)
