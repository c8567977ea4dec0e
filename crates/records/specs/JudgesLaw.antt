-- A named judge keeps the law of judges.
-- Proofs alone, which the code names: nothing here has to be believed.
use Rattle.std.proofs.Common.{ℕ, ◌^◌, ◌<◌, List, length, get_or, arith}
use Rattle.judges.specs.CostsLemmas.{largest_fits}
use Rattle.records.specs.Judges.{named_cost}
use Rattle.records.specs.declared.judge.NamedJudge.{NamedJudge}
use Rattle.records.specs.declared.judge.NamedJudge.TheVariants.{Largest, Squares}

pub named_fits : (judge : NamedJudge) (sizes : List ℕ) → ((k : ℕ) → k < length sizes → get_or sizes k 0 < 2 ^ 32) → named_cost judge sizes < 2 ^ 63
named_fits Largest sizes low = largest_fits sizes low
named_fits Squares sizes low = omega arith
