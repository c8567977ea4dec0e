-- The plain book answers in one way: the same calls on the same book are answered alike, and leave the same book.
use Rattle.std.proofs.Common.{◌≡◌, ℕ, List, [], ◌∷◌, ◌++◌, length, Ok, Err, Result, sym, refl, ap, ap₂, ◌∙◌, subst, arith}
use Rattle.std.proofs.lemmas.List.{length-append, same_from_push}
use Rattle.kinds.specs.Meaning.{Meaning}
use Rattle.blocks.specs.Cells.{cell_of}
use Rattle.blocks.specs.Blocks.{block}
use Rattle.choice.specs.declared.choice.Choice.{Choice}
use Rattle.choice.proofs.Whole.{only_choice}
use Rattle.table.specs.Refusals.{at}
use Rattle.table.specs.declared.refusal.Refusal.{Refusal}
use Rattle.table.proofs.Calls.{err_ok, err_one}
use Rattle.history.specs.Turns.{AnyCall, AnyTurn, line_of}
use Rattle.history.specs.Plain.{Plain, with_bits, Says, Tells}
use Rattle.history.specs.declared.turn.Answer.{Answer}
use Rattle.history.specs.declared.turn.Answer.TheVariants.{Chosen, Found, Refused}
use Rattle.history.proofs.Walks.{walks_one}

module _ {Header Rule Row : Type 0} (k : Meaning Header Rule Row) (room : ℕ) where
  pub never : {A : Type 0} (v : Result (Unit {0}) Refusal) (refusal : Refusal) → v ≡ Err refusal → v ≡ Ok tt → A
  never v refusal e f = absurd (err_ok (sym e ∙ f))

  pub says_one : {p : Plain Rule} {tally : ℕ} {call : AnyCall Rule Header} {a b : Answer} {q r : Plain Rule} → Says k room p tally call a q → Says k room p tally call b r → (a ≡ b) × (q ≡ r)
  says_one {call = call} (Says.refuses {refusal = x} e) (Says.refuses {refusal = y} f) = (ap (λ z. Refused (at (line_of call) z)) (err_one (sym e ∙ f)), refl)
  says_one (Says.refuses {refusal = x} e) (Says.puts f) = never _ x e f
  says_one (Says.refuses {refusal = x} e) (Says.strikes f) = never _ x e f
  says_one (Says.refuses {refusal = x} e) (Says.chooses f _) = never _ x e f
  says_one (Says.refuses {refusal = x} e) (Says.looks_up _) = never _ x e refl
  says_one (Says.puts e) (Says.refuses {refusal = y} f) = never _ y f e
  says_one (Says.puts e) (Says.puts f) = (refl, refl)
  says_one (Says.strikes e) (Says.refuses {refusal = y} f) = never _ y f e
  says_one (Says.strikes e) (Says.strikes f) = (refl, refl)
  says_one (Says.chooses e _) (Says.refuses {refusal = y} f) = never _ y f e
  says_one {p} (Says.chooses {asked} {choice} e c) (Says.chooses {choice = other} f d) =
      let same : choice ≡ other = sym (only_choice k p.rules room asked.judge asked.limits choice c other d) in
      (ap Chosen same, ap (λ (x : Choice). with_bits p x.bits) same)
  says_one (Says.looks_up _) (Says.refuses {refusal = y} f) = never _ y f refl
  says_one {p} (Says.looks_up {header} {line} {tried} c) (Says.looks_up {line = other} {tried = more} d) =
      let same = walks_one k p.rules header (block k p.rules p.bits (cell_of k p.bits header)) line other tried more c.counted d.counted in
      (ap₂ Found same.0 same.1, refl)

  tells_one : {p : Plain Rule} {turns others : List (AnyTurn Rule Header)} {xs ys : List Answer} {q r : Plain Rule} → Tells k room p turns xs q → Tells k room p others ys r → turns ≡ others → (xs ≡ ys) × (q ≡ r)
  tells_one Tells.nothing_yet Tells.nothing_yet e = (refl, refl)
  tells_one Tells.nothing_yet (Tells.one_more {turns = ts} {turn = t} _ _) e = absurd (omega (arith, ap length e, length-append ts (t ∷ [])))
  tells_one (Tells.one_more {turns = ts} {turn = t} _ _) Tells.nothing_yet e = absurd (omega (arith, ap length e, length-append ts (t ∷ [])))
  tells_one (Tells.one_more {turns = ts} {q = q} {turn = t} on say) (Tells.one_more {turns = us} {q = q'} {r = r'} {turn = u} {answer = b} on' say') e =
      let same = same_from_push ts us t u e in
      let past = tells_one on on' same.0 in
      let now = says_one say (subst (λ x. Says k room x t.tally t.call b r') (sym past.1) (subst (λ (x : AnyTurn Rule Header). Says k room q' x.tally x.call b r') (sym same.1) say')) in
      (ap₂ (λ ys y. ys ++ y ∷ []) past.0 now.0, now.1)

  pub deterministic : {p q r : Plain Rule} {turns : List (AnyTurn Rule Header)} {answers others : List Answer} → Tells k room p turns answers q → Tells k room p turns others r → (answers ≡ others) × (q ≡ r)
  deterministic t u = tells_one t u refl
