-- What the client's two lists answer.
--     Fills           a line is filled with the rule that a row holds, or it is told why the row holds none
--     Answers         the lowest line for the header that was read and how many were compared, or it is told why none was read
-- Assumes nothing.
use Rattle.std.specs.Prelude.{◌≡◌, ℕ, List, length, Some, Option, Result}
use Rattle.kinds.specs.Meaning.{Meaning}
use Rattle.kinds.specs.Checks.{MadeOf}
use Rattle.kinds.specs.Lines.{rule_of, rules_of, Lowest, compared_for}
use Rattle.kinds.specs.declared.line.Line.{Line}

module _ {Header Rule LineRow Fault : Type 0} (k : Meaning Header Rule LineRow) where
  abbrev pub Fills : Result Rule Fault → Result (Line LineRow) Fault → Type 0
  Fills = MadeOf (λ rule line. rule_of k line ≡ Some rule)

  abbrev pub Answers : List (Line LineRow) → Result Header Fault → Result (Option ℕ × ℕ) Fault → Type 0
  Answers lines = MadeOf (λ h found. Lowest k (rules_of k lines) h found.0 × (found.1 ≡ compared_for found.0 (length lines)))
