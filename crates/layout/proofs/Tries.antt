-- What a walk over entries of any content means.
use Rattle.std.proofs.Common.{◌≡◌, ℕ, ◌+◌, List, [], ◌∷◌, get_or, Some, None, Ok, Err, Option, Result, sym, refl, ap, ◌∙◌, subst, arith}
use Rattle.std.proofs.lemmas.Bool.{cond_both}
use Rattle.kinds.specs.Meaning.{Meaning}
use Rattle.kinds.specs.Checks.{◌and_then◌}
use Rattle.kinds.specs.Lines.{matches_at}
use Rattle.layout.specs.LookUp.{try_entry, walked, Misses, WalksTo, Walks, Looks}
use Rattle.layout.specs.declared.spoilt.Spoilt.{Spoilt}
use Rattle.layout.specs.declared.spoilt.Spoilt.TheVariants.{Bounds, Entry}

module _ {Header Rule Row : Type 0} (k : Meaning Header Rule Row) (rules : List (Option Rule)) (h : Header) where
  -- an answer that counts so many tried before
  abbrev WalksFrom : ℕ → List ℕ → Result (Option ℕ × ℕ) Spoilt → Type 0
  WalksFrom t entries (Ok answer) = (tried : ℕ) × WalksTo k rules h entries answer.0 tried × (answer.1 ≡ t + tried)
  WalksFrom t entries (Err spoilt) = Walks k rules h entries (Err spoilt)

  module _ (line t : ℕ) (behind : List ℕ) where
    one_more_to : (missed : Misses k rules h line) (o : Option ℕ) (tried : ℕ) → WalksTo k rules h behind o tried → WalksTo k rules h (line ∷ behind) o (tried + 1)
    one_more_to missed None tried w = ((missed, w.0), omega arith)
    one_more_to missed (Some l) tried w = (line ∷ w.0, w.1, ap (λ (ls : List ℕ). line ∷ ls) w.2, (missed, w.3), w.4, omega arith)

    one_more : (missed : Misses k rules h line) (answer : Result (Option ℕ × ℕ) Spoilt) → WalksFrom (t + 1) behind answer → WalksFrom t (line ∷ behind) answer
    one_more missed (Ok answer) w = (w.0 + 1, one_more_to missed answer.0 w.0 w.1, omega arith)
    one_more missed (Err Entry) w = (line ∷ w.0, w.1, w.2, ap (λ (ls : List ℕ). line ∷ ls) w.3, (missed, w.4), w.5)
    one_more missed (Err Bounds) w = w

    -- the entry in front ends the walk, or leaves it to those behind
    one_tried : (o : Option Rule) → get_or rules line None ≡ o → WalksFrom (t + 1) behind (walked k rules h (t + 1) behind) → WalksFrom t (line ∷ behind) (try_entry k o h (Some line, t + 1) (walked k rules h (t + 1) behind))
    one_tried None e w = ([], line, behind, refl, tt, e)
    one_tried (Some r) e w = cond_both (k.matches r h) (Ok (Some line, t + 1)) (walked k rules h (t + 1) behind) (WalksFrom t (line ∷ behind))
        (λ match. (1, ([], behind, refl, tt, ap (λ (o : Option Rule). matches_at k o h) e ∙ match, refl), refl))
        (λ no_match. one_more (r, e, no_match) (walked k rules h (t + 1) behind) w)

  walks_from : (entries : List ℕ) (t : ℕ) → WalksFrom t entries (walked k rules h t entries)
  walks_from [] t = (0, (tt, refl), omega arith)
  walks_from (line ∷ behind) t = one_tried line t behind (get_or rules line None) refl (walks_from behind (t + 1))

  from_none : (entries : List ℕ) (answer : Result (Option ℕ × ℕ) Spoilt) → WalksFrom 0 entries answer → Walks k rules h entries answer
  from_none entries (Ok answer) w = subst (WalksTo k rules h entries answer.0) (omega arith) w.1
  from_none entries (Err spoilt) w = w

  pub walks : (entries : List ℕ) → Walks k rules h entries (walked k rules h 0 entries)
  walks entries = from_none entries (walked k rules h 0 entries) (walks_from entries 0)

  looks_walked : (entries : Result (List ℕ) Spoilt) → Looks k rules h entries (entries and_then walked k rules h 0)
  looks_walked (Ok entries) = walks entries
  looks_walked (Err spoilt) = refl

  pub looks : (entries : Result (List ℕ) Spoilt) (answer : Result (Option ℕ × ℕ) Spoilt) → answer ≡ (entries and_then walked k rules h 0) → Looks k rules h entries answer
  looks entries answer is = subst (Looks k rules h entries) (sym is) (looks_walked entries)
