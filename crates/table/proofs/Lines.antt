-- A line of a list, and what the checks find of it.
use Rattle.std.proofs.Common.{◌≡◌, ℕ, false, ◌<◌, List, length, get_or, Some, None, Ok, Err, is_none, cond, refl, ap, ◌∙◌, arith, slice_get, slice_set, ap₂, Option, IsSomeAnd}
use Rattle.std.proofs.lemmas.Bool.{lt-leb}
use Rattle.std.proofs.lemmas.List.{get_or-map, length-map, map-set}
use Rattle.std.proofs.lemmas.Option.{slice_get_within, get_or_from_slice_get}
use Rattle.kinds.specs.Meaning.{Meaning}
use Rattle.kinds.specs.Lines.{rule_of, rules_of}
use Rattle.kinds.specs.declared.line.Line.{Line}
use Rattle.table.specs.Checks.{verdict, strike_checks}
use Rattle.table.specs.Lines.{IsEmptied, Replaced}
use Rattle.table.specs.declared.refusal.Refusal.TheVariants.{EmptyLine}

module _ {Header Rule Row : Type 0} (k : Meaning Header Rule Row) where
  -- the verdict on striking a line that is there is whether it is empty
  pub strike_verdict : (lines : List (Line Row)) (place : ℕ) (found : Line Row) → slice_get lines place ≡ Some found → verdict (strike_checks (rules_of k lines) place) ≡ cond (is_none (rule_of k found)) (Err EmptyLine) (Ok tt)
  strike_verdict lines place found e =
      let lt : place < length lines = slice_get_within lines place found e in
      let here : get_or (rules_of k lines) place None ≡ rule_of k found = get_or-map (rule_of k) lines place found None lt ∙ ap (rule_of k) (get_or_from_slice_get lines place found found e) in
      let inside = lt-leb (length (rules_of k lines)) place (omega (arith, lt, length-map lines (rule_of k))) in
      rw (inside, here) refl

  pub rules_of_replaced : (lines : List (Line Row)) (place line : ℕ) (new : Line Row) (o : Option Rule) → place ≡ line → rule_of k new ≡ o → rules_of k (slice_set lines place new) ≡ slice_set (rules_of k lines) line o
  rules_of_replaced lines place line new o at is = map-set (rule_of k) lines place new ∙ ap₂ (slice_set (rules_of k lines)) at is

  -- an emptied line holds no rule
  emptied_at : (o : Option (Line Row)) (new : Line Row) → IsSomeAnd o (λ old. new ≡ record { mark = false; row = old.row }) → rule_of k new ≡ None
  emptied_at None new is = absurd is
  emptied_at (Some old) new is = ap (rule_of k) is

  pub emptied_none : (lines : List (Line Row)) (line : ℕ) (new : Line Row) → IsEmptied lines line new → rule_of k new ≡ None
  emptied_none lines line new is = emptied_at (slice_get lines line) new is

pub replaced : {Row : Type 0} (IsNew : Line Row → Type 0) (lines : List (Line Row)) (place line : ℕ) (new : Line Row) → place ≡ line → IsNew new → Replaced line IsNew lines (slice_set lines place new)
replaced IsNew lines place line new at sort = (new, sort, ap (λ (p : ℕ). slice_set lines p new) at)
