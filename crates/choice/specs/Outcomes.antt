-- How the end of a choice is printed: in one word. Assumes nothing.
use Rattle.std.specs.Prelude.{ℕ, List, codes}
use Rattle.choice.specs.declared.choice.Outcome.{Outcome}
use Rattle.choice.specs.declared.choice.Outcome.TheVariants.{Settled, Stopped}

abbrev pub outcome_text : Outcome → List ℕ
outcome_text Settled = codes "settled"
outcome_text Stopped = codes "stopped"
