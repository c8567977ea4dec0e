-- What calls do to lines.
--     emptied     a line with its mark cleared, and its row as found
--     Holds       a line that holds a rule
--     IsEmptied   the line of a list that has a number, emptied
--     Replaced    lines of which one was replaced by a line of some sort
-- Assumes nothing.
use Rattle.std.specs.Prelude.{◌≡◌, ℕ, false, List, Some, IsSomeAnd, slice_get, slice_set}
use Rattle.kinds.specs.Meaning.{Meaning}
use Rattle.kinds.specs.Lines.{rule_of}
use Rattle.kinds.specs.declared.line.Line.{Line}

abbrev pub Holds : {Header Rule Row : Type 0} → Meaning Header Rule Row → Rule → Line Row → Type 0
Holds k rule new = rule_of k new ≡ Some rule

module _ {Row : Type 0} where
  abbrev pub emptied : Line Row → Line Row
  emptied line = record { mark = false; row = line.row }

  abbrev pub IsEmptied : List (Line Row) → ℕ → Line Row → Type 0
  IsEmptied found place new = IsSomeAnd (slice_get found place) (λ old. new ≡ emptied old)

  abbrev pub Replaced : ℕ → (Line Row → Type 0) → List (Line Row) → List (Line Row) → Type 0
  Replaced place IsNew found left = (new : Line Row) × IsNew new × (left ≡ slice_set found place new)
