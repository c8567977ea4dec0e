-- What the table of the seven lines answers.
--     AnswersFrom   what a look-up in an area answers, which is the lowest line where the area is the lines' table, or it is told why no header was read
--     AnswersAnew   the lowest line from a table that is laid for the answer, or it is told by its code what laying refused
-- Assumes nothing.
use Rattle.std.specs.Prelude.{◌≡◌, ℕ, List, length, map, Option, Result}
use Rattle.kinds.specs.Meaning.{Meaning}
use Rattle.kinds.specs.Checks.{checked, MadeOf}
use Rattle.kinds.specs.Lines.{rules_of}
use Rattle.kinds.specs.declared.line.Line.{Line}
use Rattle.layout.specs.Layout.{laid}
use Rattle.kinds.specs.declared.code.FaultCode.{FaultCode}
use Rattle.blocks.specs.Counts.{table_checks}
use Rattle.blocks.specs.Faults.{code_of}
use Rattle.layout.specs.LookUp.{looked_up, Found, FindsLowest}
use Rattle.layout.specs.declared.spoilt.Spoilt.{Spoilt}

module _ {Header Rule LineRow Fault : Type 0} (k : Meaning Header Rule LineRow) where
  abbrev pub AnswersFrom : List (Line LineRow) → (bits area : List ℕ) → Result Header Fault → Result (Result (Option ℕ × ℕ) Spoilt) Fault → Type 0
  AnswersFrom lines bits area =
      MadeOf (λ h found. (found ≡ looked_up k (rules_of k lines) bits h area) × (area ≡ laid k (rules_of k lines) bits (length area) → FindsLowest k (rules_of k lines) bits h found))

module _ {Header Rule LineRow : Type 0} (k : Meaning Header Rule LineRow) where
  abbrev pub AnswersAnew : List (Line LineRow) → List ℕ → (tally room : ℕ) → Header → Result (Option ℕ × ℕ) FaultCode → Type 0
  AnswersAnew lines bits tally room h =
      MadeOf (λ (checks : ℕ) found. Found k (rules_of k lines) bits h found.0 found.1) (checked (map (λ check. (check.0, code_of check.1)) (table_checks k lines bits tally room)) 0)
