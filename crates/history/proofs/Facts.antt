-- What holds after every history.
use Rattle.std.proofs.Common.{◌≡◌, ℕ, List, [], ◌++◌, length, Ok, Err, Option, Result, not, eqb, sym, refl, ap, ap₂, ◌∙◌, subst, arith}
use Rattle.std.proofs.lemmas.Bool.{ltb-false, or_parts}
use Rattle.bits.specs.Chosen.{IsBits}
use Rattle.kinds.specs.Meaning.{Meaning, Lawful}
use Rattle.kinds.specs.Lines.{rules_of}
use Rattle.blocks.specs.Blocks.{table_size, Fits}
use Rattle.choice.specs.Choice.{FitsIn, IsChoice}
use Rattle.choice.specs.declared.choice.Choice.{Choice}
use Rattle.choice.proofs.Whole.{only_choice, bits_reached, bits_set, few_tries, settled_unbettered}
use Rattle.layout.specs.Layout.{laid}
use Rattle.layout.proofs.Laid.{length_laid}
use Rattle.table.specs.Checks.{verdict, memory_checks, lines_checks, room_checks, choice_checks}
use Rattle.table.specs.Calls.{ChoosesAnew}
use Rattle.table.specs.declared.shape.Shape.{Shape}
use Rattle.table.proofs.Calls.{all_pass}
use Rattle.history.specs.Turns.{AnyCall, AnyTurn, of_choice}
use Rattle.history.specs.Plain.{Plain, Tells}
use Rattle.history.specs.Histories.{Moment, lending, Start, Step, Lives, Made}
use Rattle.history.specs.Facts.{plain_of, Certified, FactsOfAll}
use Rattle.history.specs.declared.turn.Asked.{Asked}
use Rattle.history.specs.declared.turn.Call.TheVariants.{Choose}
use Rattle.history.specs.declared.turn.Answer.{Answer}
use Rattle.history.specs.declared.turn.Answer.TheVariants.{Chosen}
use Rattle.history.proofs.Plain.{deterministic}
use Rattle.history.proofs.Answers.{did}
use Rattle.history.proofs.Standing.{Stands, same_length, stands_laid, stands_finds}
use Rattle.history.proofs.Steps.{step_kept}

module _ {Header Rule Row : Type 0} (k : Meaning Header Rule Row) where
  -- what the definition says of a choice that it reaches
  certify : (rules : List (Option Rule)) (room : ℕ) (asked : Asked (List ℕ → ℕ)) (choice : Choice) → FitsIn k rules room [] → IsChoice k rules room asked.judge asked.limits choice → Certified k rules room asked choice
  certify rules room asked choice none is = record {
    is = is;
    only = only_choice k rules room asked.judge asked.limits choice is;
    reached = bits_reached k rules room asked.judge asked.limits choice none is;
    tries = few_tries k rules room asked.judge asked.limits choice is;
    unbettered = settled_unbettered k rules room asked.judge asked.limits choice is;
  }

  -- what is made
  pub record IsMade (start : Start Row) (choice : Choice) (first : Moment Row) : Type 0 where
    pub stands : Stands k start.room first
    pub plain : plain_of k first ≡ record { rules = rules_of k start.lines; bits = choice.bits }
    pub certified : Certified k (rules_of k start.lines) start.room start.asked choice

  pub made_is : Lawful k → (start : Start Row) (choice : Choice) (first : Moment Row) → Made k start choice first → IsMade start choice first
  made_is law start choice first made =
      let rules = rules_of k start.lines in
      let lines = length start.lines in
      let area = length made.area in
      let measured = did _ _ _ _ (verdict (lines_checks made.opened lines ++ choice_checks k rules start.asked.limits (length made.measuring_found) start.room)) (made.measured, choice) made.measures in
      let laid_so = did _ _ _ _ (verdict (memory_checks made.measured lines area ++ room_checks k rules made.measured.bits (length made.laying_found) area)) first.table made.lays in
      let allowed = all_pass (lines_checks made.opened lines ++ choice_checks k rules start.asked.limits (length made.measuring_found) start.room) measured.0 in
      let none = ltb-false start.room (table_size k rules []) allowed.1.1.1.0 in
      let passed = all_pass (memory_checks made.measured lines area ++ room_checks k rules made.measured.bits (length made.laying_found) area) laid_so.0 in
      let own = or_parts (not (eqb lines made.measured.lines)) (not (eqb area made.measured.area)) passed.0 in
      let fits : Fits k rules made.measured.bits area = ltb-false area (table_size k rules made.measured.bits) passed.1.1.0 in
      let table : first.table ≡ made.measured = laid_so.1.shape in
      let bits : first.table.bits ≡ choice.bits = ap (λ (t : Shape). t.bits) table ∙ measured.1.table.bits in
      let is_laid : first.area ≡ laid k rules made.measured.bits area = laid_so.1.area in
      let long : length first.area ≡ area = ap length is_laid ∙ length_laid k rules made.measured.bits area fits in
      record {
        stands = record {
          lines = ap length laid_so.1.lines ∙ same_length lines made.measured.lines own.0 ∙ ap (λ (t : Shape). t.lines) (sym table);
          area = long ∙ same_length area made.measured.area own.1 ∙ ap (λ (t : Shape). t.area) (sym table);
          long = long ∙ made.long;
          bits = subst IsBits (sym bits) (bits_set k rules start.room start.asked.judge law start.asked.limits choice allowed.1.0 none measured.1.choice);
          is_laid = is_laid ∙ ap₂ (λ ls (t : Shape). laid k (rules_of k ls) t.bits area) (sym laid_so.1.lines) (sym table) ∙ ap (laid k (rules_of k first.lines) first.table.bits) made.long;
        };
        plain = ap₂ (λ ls bits. record { rules = rules_of k ls; bits = bits }) laid_so.1.lines bits;
        certified = certify rules start.room start.asked choice none measured.1.choice;
      }

  -- a list of calls on a table that stands
  lives_kept : Lawful k → (room : ℕ) {first last : Moment Row} {turns : List (AnyTurn Rule Header)} {answers : List Answer} → Stands k room first → Lives k first turns answers last → Stands k room last × Tells k room (plain_of k first) turns answers (plain_of k last)
  lives_kept law room s Lives.nothing_yet = (s, Tells.nothing_yet)
  lives_kept law room s (Lives.one_more on step) =
      let so_far = lives_kept law room s on in
      let kept = step_kept k room law so_far.0 step in
      (kept.stands, Tells.one_more so_far.1 kept.says)

  -- each choice anew is certified
  chosen_certified : (found left : Moment Row) (before after : List ℕ) (asked : Asked (List ℕ → ℕ)) (anew : Choice) (r : Result Choice _) → of_choice r ≡ Chosen anew → ChoosesAnew k found.table (lending found before) (lending left after) asked.judge asked.limits left.table r → Certified k (rules_of k found.lines) (length found.area) asked anew
  chosen_certified found left before after asked anew (Err fault) is call = absurd (let z : ◌≡◌ {A = ℕ} 0 1 = cc in omega arith)
  chosen_certified found left before after asked anew (Ok choice) is call =
      let rules = rules_of k found.lines in
      let checks = memory_checks found.table (length found.lines) (length found.area) ++ choice_checks k rules asked.limits (length before) (length found.area) in
      let chose = did _ _ _ _ (verdict checks) choice call.answers in
      let none = ltb-false (length found.area) (table_size k rules []) (all_pass checks chose.0).1.1.1.0 in
      let same : choice ≡ anew = cc in
      subst (Certified k rules (length found.area) asked) same (certify rules (length found.area) asked choice none chose.1.choice)

  step_certified : {found left : Moment Row} {tally : ℕ} {call : AnyCall Rule Header} {answer : Answer} (asked : Asked (List ℕ → ℕ)) (anew : Choice) → call ≡ Choose asked → answer ≡ Chosen anew → Step k found tally call answer left → Certified k (rules_of k found.lines) (length found.area) asked anew
  step_certified asked anew e is (Step.puts _ _ _ _ _ _) = absurd (let z : ◌≡◌ {A = ℕ} 0 1 = cc in omega arith)
  step_certified asked anew e is (Step.strikes _ _ _ _ _ _) = absurd (let z : ◌≡◌ {A = ℕ} 0 1 = cc in omega arith)
  step_certified asked anew e is Step.looks = absurd (let z : ◌≡◌ {A = ℕ} 0 1 = cc in omega arith)
  step_certified {found} {left} asked anew e is (Step.chooses {asked = a} before after result long call) =
      let same : a ≡ asked = cc in
      subst (λ x. Certified k (rules_of k found.lines) (length found.area) x anew) same (chosen_certified found left before after a anew result is call)

  pub facts_of_all : Lawful k → FactsOfAll k
  facts_of_all law start choice turns answers last h =
      let made = made_is law start choice h.first h.made in
      let kept = lives_kept law start.room made.stands h.lived in
      record {
        plain = subst (λ p. Tells k start.room p turns answers (plain_of k last)) made.plain kept.1;
        lowest = stands_finds k law start.room last kept.0;
        canonical = record { long = kept.0.long; area = stands_laid k start.room last kept.0 };
        independent = λ other_start other_choice other_turns other_answers other o room same.
            let other_made = made_is law other_start other_choice o.first o.made in
            let other_kept : Stands k start.room other = subst (λ n. Stands k n other) room (lives_kept law other_start.room other_made.stands o.lived).0 in (
              other_kept.is_laid ∙ ap (λ (p : Plain Rule). laid k p.rules p.bits start.room) same ∙ sym kept.0.is_laid,
              λ further ones others end other_end here there.
                  let one = (lives_kept law start.room kept.0 here).1 in
                  let another = subst (λ p. Tells k start.room p further others (plain_of k other_end)) same (lives_kept law start.room other_kept there).1 in
                  (deterministic k start.room another one).0,
            );
        certified = (made.certified, λ found left tally asked anew step. step_certified asked anew refl refl step);
      }
