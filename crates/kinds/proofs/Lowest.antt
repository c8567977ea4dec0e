-- The plain search: the first line that matches is the lowest.
use Rattle.std.proofs.Common.{◌≡◌, ℕ, ◌<◌, ◌≤◌, List, [], ◌∷◌, length, Some, None, Option, position, refl, sym, ap, ◌∙◌, subst, inl, inr, arith}
use Rattle.std.specs.List.{position_or_len}
use Rattle.std.proofs.lemmas.Bool.{both_ways, cases_lt, cond_below, cond_above, true≢false}
use Rattle.std.proofs.lemmas.List.{get_or_past, length-map}
use Rattle.std.proofs.lemmas.List.Sums.{fails_before_first, passes_at_first}
use Rattle.kinds.specs.Meaning.{Meaning}
use Rattle.kinds.specs.Lines.{rule_of, rules_of, matches_at, Matches, Lowest}
use Rattle.kinds.specs.declared.line.Line.{Line}

module _ {Header Rule Row : Type 0} (k : Meaning Header Rule Row) (h : Header) where
  module _ (rules : List (Option Rule)) where
    abbrev first : ℕ
    first = position_or_len (λ o. matches_at k o h) rules

    none_below : (j : ℕ) → j < first → Matches k rules h j → ⊥
    none_below j lt m = both_ways _ (fails_before_first (λ o. matches_at k o h) rules j None lt) m

    none_past : (j : ℕ) → length rules ≤ j → Matches k rules h j → ⊥
    none_past j le m = true≢false (sym m ∙ ap (λ (o : Option Rule). matches_at k o h) (get_or_past rules j None le))

    lowest_first : Lowest k rules h (position (λ o. matches_at k o h) rules)
    lowest_first = elim (cases_lt first (length rules)) [
      | inl lt ↦ subst (Lowest k rules h) (cond_below first (length rules) (Some first) None lt) (passes_at_first (λ o. matches_at k o h) rules None lt, λ j m. elim (cases_lt j first) [ inl below ↦ absurd (none_below j below m) | inr le ↦ le ])
      | inr le ↦ subst (Lowest k rules h) (cond_above first (length rules) (Some first) None None le refl) (λ j m. elim (cases_lt j first) [ inl below ↦ none_below j below m | inr past ↦ none_past j (omega arith) m ])
    ]

  same_place : (lines : List (Line Row)) → position_or_len (λ o. matches_at k o h) (rules_of k lines) ≡ position_or_len (λ line. matches_at k (rule_of k line) h) lines
  same_place [] = refl
  same_place (line ∷ lines) = rw (← same_place lines)

  pub lowest_position : (lines : List (Line Row)) → Lowest k (rules_of k lines) h (position (λ line. matches_at k (rule_of k line) h) lines)
  lowest_position lines = rw (← same_place lines, ← length-map lines (rule_of k)) (lowest_first (rules_of k lines))
