-- The rules of a list of lines, place by place.
use Rattle.std.proofs.Common.{◌≡◌, ℕ, ◌<◌, List, length, get_or, None, sym, ap, ◌∙◌}
use Rattle.std.proofs.lemmas.List.{get_or-map}
use Rattle.kinds.specs.Meaning.{Meaning}
use Rattle.kinds.specs.Lines.{rule_of, rules_of}
use Rattle.kinds.specs.declared.line.Line.{Line}

module _ {Header Rule Row : Type 0} (k : Meaning Header Rule Row) where
  pub rule_here : (lines : List (Line Row)) (i : ℕ) (line : Line Row) → i < length lines → line ≡ get_or lines i line → get_or (rules_of k lines) i None ≡ rule_of k line
  rule_here lines i line lt is = get_or-map (rule_of k) lines i line None lt ∙ ap (rule_of k) (sym is)
