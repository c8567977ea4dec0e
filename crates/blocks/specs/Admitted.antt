-- The cells that are left of those whose blocks name a line: what the type `Admitted` tells its callers.
--     passes        a cell is not asked for, or its values are admitted
-- Assumes nothing.
use Rattle.std.specs.Prelude.{ℕ, Bool, true, List, Some, None, Option}
use Rattle.kinds.specs.Meaning.{Meaning}
use Rattle.kinds.specs.Values.{valued}

abbrev pub passes : {Header Rule Row : Type 0} → Meaning Header Rule Row → Option Rule → List ℕ → ℕ → Bool
passes k None bits cell = true
passes k (Some r) bits cell = k.admits r (valued bits cell)
