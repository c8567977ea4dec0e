-- Making a table: what was measured for an area can be laid in it, and what is made and carried out is a history.
use Rattle.std.proofs.Common.{◌≡◌, ℕ, Bool, List, [], ◌++◌, map, length, replicate, Ok, Err, sym, refl, ap, ap₂, ◌∙◌, subst}
use Rattle.std.proofs.lemmas.List.{length-replicate}
use Rattle.std.proofs.lemmas.Bool.{ltb-false}
use Rattle.kinds.specs.Meaning.{Meaning}
use Rattle.kinds.specs.Lines.{rules_of}
use Rattle.kinds.specs.declared.line.Line.{Line}
use Rattle.choice.specs.declared.choice.Choice.{Choice}
use Rattle.choice.proofs.Whole.{bits_reached}
use Rattle.table.specs.Checks.{verdict, lines_checks, memory_checks, room_checks, choice_checks}
use Rattle.table.specs.Calls.{memory, zeros, Measured, Measures, Laid, Lays}
use Rattle.table.specs.declared.refusal.Refusal.{Refusal}
use Rattle.table.specs.declared.shape.Shape.{Shape}
use Rattle.table.specs.declared.laid.LaidTable.{LaidTable}
use Rattle.table.proofs.Calls.{all_pass, verdict_behind, done}
use Rattle.table.proofs.Rooms.{chosen_room}
use Rattle.history.specs.Turns.{asked_of, lent}
use Rattle.history.specs.Histories.{moment, Lives}
use Rattle.history.specs.Runs.{numbers_of, CarriedOut, TableMade, Makes, Ran, Runs}
use Rattle.history.specs.declared.turn.Asked.{Asked}
use Rattle.history.specs.declared.turn.Turn.{Turn}
use Rattle.history.proofs.Answers.{not_refused, did}
use Rattle.history.proofs.Standing.{own_memory, same_length}

module _ {Header Rule Row : Type 0} (k : Meaning Header Rule Row) (opened : ℕ) (asked : Asked (List ℕ → ℕ)) (lines : List (Line Row)) (area tally : List ℕ) where
  abbrev checks : List (Bool × Refusal)
  checks = lines_checks opened (length lines) ++ choice_checks k (rules_of k lines) asked.limits (length tally) (length area)

  module _ (counted : List ℕ) (measured : Shape) (choice : Choice) where
    abbrev IsMeasured : Type 0
    IsMeasured = Measured k opened (length area) asked.judge asked.limits (memory lines [] tally) (memory lines [] counted) measured choice

    lay_passes : verdict checks ≡ Ok tt → IsMeasured → verdict (memory_checks measured (length lines) (length area) ++ room_checks k (rules_of k lines) measured.bits (length counted) (length area)) ≡ Ok tt
    lay_passes passed is =
        let rules = rules_of k lines in
        let fine = all_pass checks passed in
        let many : length lines ≡ opened = same_length (length lines) opened fine.0 in
        let none = ltb-false (length area) _ fine.1.1.1.0 in
        let reached = bits_reached k rules (length area) asked.judge asked.limits choice none is.choice in
        let asks = sym (verdict_behind (lines_checks opened (length lines)) (choice_checks k rules asked.limits (length tally) (length area)) (rw fine.0 refl)) ∙ passed in
        let room = chosen_room k rules choice.bits asked.limits (length tally) (length area) asks reached.few reached.fits in
        let long : length counted ≡ length tally = ap length is.tally ∙ length-replicate (length tally) 0 in
        verdict_behind (memory_checks measured (length lines) (length area)) (room_checks k rules measured.bits (length counted) (length area)) (own_memory k measured (length lines) (length area) (many ∙ sym is.table.lines) (sym is.table.area))
        ∙ ap₂ (λ bits n. verdict (room_checks k rules bits n (length area))) is.table.bits long
        ∙ room

    -- so laying isn't refused
    pub never_refused : {A F : Type 0} (view : A → Shape) (tell : Refusal → F) (laid after : List ℕ) (fault : F) → verdict checks ≡ Ok tt → IsMeasured → Lays k measured (memory lines area counted) (memory lines laid after) view tell (Err fault) → ⊥
    never_refused view tell laid after fault passed is refused = not_refused tell (λ made. Laid k measured (memory lines area counted) (memory lines laid after) (view made)) (memory lines area counted) (memory lines laid after) _ fault (lay_passes passed is) refused

    pub table_made : (laid after : List ℕ) (table : Shape) → verdict checks ≡ Ok tt → IsMeasured → Laid k measured (memory lines area counted) (memory lines laid after) table → TableMade k opened asked (memory lines area tally) (memory lines laid after) table choice
    table_made laid after table passed is is_laid = record {
      made = record {
        opened = opened;
        measured = measured;
        measuring_found = tally;
        measuring_left = counted;
        laying_found = counted;
        laying_left = after;
        area = area;
        long = refl;
        measures = done (λ (r : Refusal). r) (λ (made : Shape × Choice). Measured k opened (length area) asked.judge asked.limits (memory lines [] tally) (memory lines [] counted) made.0 made.1) (memory lines [] tally) (memory lines [] counted) (verdict checks) (measured, choice) passed is;
        lays = done (λ (r : Refusal). r) (λ made. Laid k measured (memory lines area counted) (memory lines laid after) made) (memory lines area counted) (memory lines laid after) _ table (lay_passes passed is) is_laid;
      };
      tally = is_laid.tally ∙ ap (λ n. replicate n 0) (ap length is.tally ∙ length-replicate (length tally) 0);
    }

  module _ {A F : Type 0} (view : A → Shape × Choice) (tell : Refusal → F) (counted : List ℕ) (x : A) (measures : Measures k opened (length area) asked.judge asked.limits (memory lines [] tally) (memory lines [] counted) view tell (Ok x)) where
    measured_so : (verdict checks ≡ Ok tt) × IsMeasured counted (view x).0 (view x).1
    measured_so = did tell (λ made. IsMeasured counted (view made).0 (view made).1) (memory lines [] tally) (memory lines [] counted) (verdict checks) x measures

    module _ {B G : Type 0} (show : B → Shape) (say : Refusal → G) (laid after : List ℕ) where
      -- a table that was laid after its measuring
      pub makes : {C H : Type 0} (look : C → Shape × Choice) (tell_all : Refusal → H) (y : B) (z : C) → look z ≡ (show y, (view x).1) → Lays k (view x).0 (memory lines area counted) (memory lines laid after) show say (Ok y) → Makes k opened asked (memory lines area tally) (memory lines laid after) look tell_all (Ok z)
      makes look tell_all y z is lays =
          let is_laid = (did say (λ made. Laid k (view x).0 (memory lines area counted) (memory lines laid after) (show made)) (memory lines area counted) (memory lines laid after) _ y lays).1 in
          done tell_all (λ made. TableMade k opened asked (memory lines area tally) (memory lines laid after) (look made).0 (look made).1) (memory lines area tally) (memory lines laid after) (verdict checks) z measured_so.0
          (subst (λ pair. TableMade k opened asked (memory lines area tally) (memory lines laid after) pair.0 pair.1) (sym is) (table_made counted (view x).0 (view x).1 laid after (show y) measured_so.0 measured_so.1 is_laid))

      -- it cannot be refused
      pub makes_anyway : {Answer : Type 0} (fault : G) → Lays k (view x).0 (memory lines area counted) (memory lines laid after) show say (Err fault) → Answer
      makes_anyway fault lays = absurd (never_refused counted (view x).0 (view x).1 show say laid after fault measured_so.0 measured_so.1 lays)

  -- a run, from a table that was made and turns that were carried out on it
  pub run_is : {K J F : Type 0} (cost : J → List ℕ → ℕ) (tell : Refusal → F) (before after : List (Turn Rule Header J)) (left : List (Line Row)) (laid left_tally rest made_tally : List ℕ) (first table : LaidTable K) (choice : Choice)
      → Makes k opened asked (memory lines area tally) (memory lines rest made_tally) numbers_of tell (Ok (first, choice))
      → CarriedOut k cost (length made_tally) before (moment first.shape lines rest) after (moment table.shape left laid)
      → (made_tally ≡ zeros made_tally → left_tally ≡ zeros made_tally)
      → Runs k opened asked (memory lines area tally) (memory left laid left_tally) cost before after numbers_of tell (Ok (table, choice))
  run_is {K} cost tell before after left laid left_tally rest made_tally first table choice makes_it carried zero =
      let made = did tell (λ (made : LaidTable K × Choice). TableMade k opened asked (memory lines area tally) (memory lines rest made_tally) made.0.shape made.1) (memory lines area tally) (memory lines rest made_tally) (verdict checks) (first, choice) makes_it in
      let as_long : length made_tally ≡ length tally = ap length made.1.tally ∙ length-replicate (length tally) 0 in
      let still : zeros made_tally ≡ zeros tally = ap (λ n. replicate n 0) as_long in
      record {
        answers = done tell (λ (made : LaidTable K × Choice). Ran k opened asked (memory lines area tally) (memory left laid left_tally) cost before after made.0.shape made.1) (memory lines area tally) (memory left laid left_tally) (verdict checks) (table, choice) made.0
            (record {
              answers = carried.answers;
              history = record {
                first = moment first.shape lines rest;
                made = made.1.made;
                lived = subst (λ (n : ℕ). Lives k (moment first.shape lines rest) (map (lent cost n) (map asked_of before)) carried.answers (moment table.shape left laid)) as_long carried.lived;
              };
              answered = carried.answered;
              asks = carried.asks;
              tally = zero (made.1.tally ∙ sym still) ∙ still;
            });
        kept = tt;
      }
