-- A look-up on the plain book has one answer.
use Rattle.std.proofs.Common.{◌≡◌, ℕ, ◌+◌, List, [], ◌∷◌, ◌++◌, length, get_or, Some, None, Ok, Option, Result, ap, ◌∙◌, true, arith}
use Rattle.std.specs.List.{AllByRecursion}
use Rattle.std.proofs.lemmas.Bool.{cond-true, cond-false, false≢true}
use Rattle.kinds.specs.Meaning.{Meaning}
use Rattle.kinds.specs.Lines.{matches_at, Matches}
use Rattle.layout.specs.LookUp.{try_entry, walked, Misses, WalksTo}
use Rattle.layout.specs.declared.spoilt.Spoilt.{Spoilt}

module _ {Header Rule Row : Type 0} (k : Meaning Header Rule Row) (rules : List (Option Rule)) (h : Header) where
  -- an entry that misses leaves the walk to those behind it
  passed : (line t : ℕ) (behind : List ℕ) → Misses k rules h line → walked k rules h t (line ∷ behind) ≡ walked k rules h (t + 1) behind
  passed line t behind miss =
      ap (λ o. try_entry k o h (Some line, t + 1) (walked k rules h (t + 1) behind)) miss.1
      ∙ cond-false (k.matches miss.0 h) (Ok (Some line, t + 1)) (walked k rules h (t + 1) behind) miss.2

  -- an entry whose line matches ends it
  hit : (o : Option Rule) (line t : ℕ) (behind : Result (Option ℕ × ℕ) Spoilt) → matches_at k o h ≡ true → try_entry k o h (Some line, t + 1) behind ≡ Ok (Some line, t + 1)
  hit None line t behind match = absurd (false≢true match)
  hit (Some r) line t behind match = cond-true (k.matches r h) (Ok (Some line, t + 1)) behind match

  ends_at : (line t : ℕ) (before behind : List ℕ) → AllByRecursion (Misses k rules h) before → Matches k rules h line → walked k rules h t (before ++ (line ∷ behind)) ≡ Ok (Some line, t + length before + 1)
  ends_at line t [] behind miss match = hit (get_or rules line None) line t (walked k rules h (t + 1) behind) match ∙ ap (λ (n : ℕ). Ok (Some line, n)) (omega arith)
  ends_at line t (first ∷ before) behind miss match = passed first t (before ++ (line ∷ behind)) miss.0 ∙ ends_at line (t + 1) before behind miss.1 match ∙ ap (λ (n : ℕ). Ok (Some line, n)) (omega arith)

  ends_none : (t : ℕ) (entries : List ℕ) → AllByRecursion (Misses k rules h) entries → walked k rules h t entries ≡ Ok (None, t + length entries)
  ends_none t [] miss = ap (λ (n : ℕ). Ok (None, n)) (omega arith)
  ends_none t (first ∷ behind) miss = passed first t behind miss.0 ∙ ends_none (t + 1) behind miss.1 ∙ ap (λ (n : ℕ). Ok (None, n)) (omega arith)

  -- what the walk means tells its answer
  walked_so : (entries : List ℕ) (line : Option ℕ) (tried : ℕ) → WalksTo k rules h entries line tried → walked k rules h 0 entries ≡ Ok (line, tried)
  walked_so entries None tried w = ends_none 0 entries w.0 ∙ ap (λ (n : ℕ). Ok (None, n)) (omega (arith, w.1))
  walked_so entries (Some line) tried w = ap (walked k rules h 0) w.2 ∙ ends_at line 0 w.0 w.1 w.3 w.4 ∙ ap (λ (n : ℕ). Ok (Some line, n)) (omega (arith, w.5))

  ok_one : {A F : Type 0} (r : Result A F) (x y : A) → r ≡ Ok x → r ≡ Ok y → x ≡ y
  ok_one r x y p q = cc

  pub walks_one : (entries : List ℕ) (line other : Option ℕ) (tried more : ℕ) → WalksTo k rules h entries line tried → WalksTo k rules h entries other more → (line ≡ other) × (tried ≡ more)
  walks_one entries line other tried more v w =
      let same = ok_one (walked k rules h 0 entries) (line, tried) (other, more) (walked_so entries line tried v) (walked_so entries other more w) in
      (ap (λ p. p.0) same, ap (λ p. p.1) same)
