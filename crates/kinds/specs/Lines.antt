-- Lines, and which line answers a header.
--     rule_of   the rule of a line: none where it is empty
--     Matches   a filled line whose rule matches a header
--     Lowest    the lowest such line, or none exactly when there is none
-- Assumes nothing.
use Rattle.std.specs.Prelude.{◌≡◌, ℕ, ◌+◌, ◌≤◌, Bool, true, false, if◌then◌else◌, List, map, Some, None, Option, slice_index_or}
use Rattle.kinds.specs.Meaning.{Meaning}
use Rattle.kinds.specs.declared.line.Line.{Line}

module _ {Header Rule Row : Type 0} (k : Meaning Header Rule Row) where
  -- a line is filled if it is marked and its row holds a rule, else it is empty
  abbrev pub rule_of : Line Row → Option Rule
  rule_of line = if line.mark then k.holds line.row else None

  abbrev pub rules_of : List (Line Row) → List (Option Rule)
  rules_of lines = map rule_of lines

  -- whether a line's rule, if it has one, matches
  abbrev pub matches_at : Option Rule → Header → Bool
  matches_at None h = false
  matches_at (Some r) h = k.matches r h

  abbrev pub Matches : List (Option Rule) → Header → ℕ → Type 0
  Matches rules h line = matches_at (slice_index_or rules line None) h ≡ true

  abbrev pub Lowest : List (Option Rule) → Header → Option ℕ → Type 0
  Lowest rules h None = (line : ℕ) → Matches rules h line → ⊥
  Lowest rules h (Some lowest) = Matches rules h lowest × ((line : ℕ) → Matches rules h line → lowest ≤ line)

-- how many lines a search from the first one on has compared when it ends with this answer
abbrev pub compared_for : Option ℕ → ℕ → ℕ
compared_for None count = count
compared_for (Some line) count = line + 1
