-- What the judge that a record names tells: what that judge does. Assumes nothing.
use Rattle.std.specs.Prelude.{ℕ, List}
use Rattle.judges.specs.Costs.{largest, capped_squares}
use Rattle.records.specs.declared.judge.NamedJudge.{NamedJudge}
use Rattle.records.specs.declared.judge.NamedJudge.TheVariants.{Largest, Squares}

abbrev pub named_cost : NamedJudge → List ℕ → ℕ
named_cost Largest sizes = largest sizes
named_cost Squares sizes = capped_squares sizes
