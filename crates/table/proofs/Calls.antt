-- From what the parts of a call say to the relation that the whole call is.
use Rattle.std.proofs.Common.{◌≡◌, ℕ, Bool, false, List, [], ◌∷◌, ◌++◌, length, Option, Result, Ok, Err, is_ok, if◌then◌else◌, slice_set, refl, sym, ap, ◌∙◌, subst, inl, inr, arith}
use Rattle.std.specs.List.{AllByRecursion}
use Rattle.std.proofs.lemmas.Bool.{cases_Bool, cond-true, cond-false}
use Rattle.kinds.specs.Meaning.{Meaning}
use Rattle.kinds.specs.Lines.{rule_of, rules_of}
use Rattle.kinds.specs.declared.line.Line.{Line}
use Rattle.layout.specs.Layout.{laid}
use Rattle.table.specs.Checks.{verdict, room_checks}
use Rattle.table.specs.Calls.{Memory, tally_left, Answers, Relaid}
use Rattle.table.proofs.Lines.{rules_of_replaced}
use Rattle.table.specs.declared.refusal.Refusal.{Refusal}
use Rattle.table.specs.declared.shape.Shape.{Shape}

pub err_ok : {A F : Type 0} {fault : F} {x : A} → Err fault ≡ Ok x → ⊥
err_ok e = let z : ◌≡◌ {A = ℕ} 0 1 = cc in omega arith

pub err_one : {A F : Type 0} {one other : F} → ◌≡◌ {A = Result A F} (Err one) (Err other) → one ≡ other
err_one e = cc

-- each check passes
abbrev pub AllPass : List (Bool × Refusal) → Type 0
AllPass = AllByRecursion (λ check. check.0 ≡ false)

pub all_pass : (checks : List (Bool × Refusal)) → verdict checks ≡ Ok tt → AllPass checks
all_pass [] passed = tt
all_pass (check ∷ behind) passed =
    elim (cases_Bool check.0) [
      | inl fails ↦ absurd (err_ok (sym (cond-true check.0 (Err check.1) (verdict behind) fails) ∙ passed))
      | inr fine ↦ (fine, all_pass behind (sym (cond-false check.0 (Err check.1) (verdict behind) fine) ∙ passed))
    ]

-- checks that pass leave the verdict to those behind them
pub verdict_behind : (front behind : List (Bool × Refusal)) → verdict front ≡ Ok tt → verdict (front ++ behind) ≡ verdict behind
verdict_behind [] behind passed = refl
verdict_behind (check ∷ front) behind passed =
    let fine = (all_pass (check ∷ front) passed).0 in
    cond-false check.0 (Err check.1) (verdict (front ++ behind)) fine ∙ verdict_behind front behind (sym (cond-false check.0 (Err check.1) (verdict front) fine) ∙ passed)

module _ {Row A F : Type 0} (tell : Refusal → F) (Does : A → Type 0) (found left : Memory Row) where
  -- a call whose checks all pass
  pub done : (v : Result (Unit {0}) Refusal) (answer : A) → v ≡ Ok tt → Does answer → Answers tell Does found left v (Ok answer)
  done (Ok _) answer e does = does
  done (Err refusal) answer e does = absurd (err_ok e)

module _ {Header Rule Row : Type 0} (k : Meaning Header Rule Row) (table : Shape) (found left : Memory Row) (line : ℕ) (new : Line Row) (IsNew : Line Row → Type 0) where
  answered : (v r : Result (Unit {0}) Refusal)
      → v ≡ r
      → IsNew new
      → left.lines ≡ (if is_ok r then slice_set found.lines line new else found.lines)
      → left.area ≡ (if is_ok r then laid k (rules_of k left.lines) table.bits (length found.area) else found.area)
      → left.tally ≡ tally_left r found.tally
      → Answers (λ refusal. refusal) (λ _. Relaid k table found left line IsNew) found left v r
  answered (Ok _) (Ok _) e sort lines area tally = record { lines = (new, sort, lines); area = area; tally = tally }
  answered (Ok _) (Err told) e sort lines area tally = absurd (err_ok (sym e))
  answered (Err refusal) (Ok _) e sort lines area tally = absurd (err_ok e)
  answered (Err refusal) (Err told) e sort lines area tally =
      let same : told ≡ refusal = sym (err_one e) in
      (same, record { lines = lines; area = area; tally = subst (λ r. left.tally ≡ tally_left {A = Unit {0}} (Err r) found.tally) same tally })

  -- a change of one line that was found fit by the checks before those of room, and then laid
  pub relaid : (front : List (Bool × Refusal)) (o : Option Rule) (place : ℕ) (r : Result (Unit {0}) Refusal)
      → verdict front ≡ Ok tt
      → place ≡ line
      → rule_of k new ≡ o
      → IsNew new
      → r ≡ verdict (room_checks k (rules_of k (slice_set found.lines place new)) table.bits (length found.tally) (length found.area))
      → left.lines ≡ (if is_ok r then slice_set found.lines place new else found.lines)
      → left.area ≡ (if is_ok r then laid k (rules_of k left.lines) table.bits (length found.area) else found.area)
      → left.tally ≡ tally_left r found.tally
      → Answers (λ refusal. refusal) (λ _. Relaid k table found left line IsNew) found left (verdict (front ++ room_checks k (slice_set (rules_of k found.lines) line o) table.bits (length found.tally) (length found.area))) r
  relaid front o place r passed at is sort said lines area tally =
      let checks = λ (rules : List (Option Rule)). room_checks k rules table.bits (length found.tally) (length found.area) in
      let behind = verdict_behind front (checks (slice_set (rules_of k found.lines) line o)) passed in
      let set_is = rules_of_replaced k found.lines place line new o at is in
      answered _ r (behind ∙ sym (said ∙ ap (λ rules. verdict (checks rules)) set_is)) sort (subst (λ p. left.lines ≡ (if is_ok r then slice_set found.lines p new else found.lines)) at lines) area tally
