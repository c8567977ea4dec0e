use Rattle.std.proofs.Common.{◌≡◌}
use Rattle.job.specs.Jobs.{lent}
use Rattle.job.proofs.Runs.{Printed}
use Rattle.job.proofs.running.run_through.Given as goal

abbrev pub invariant-loop-read : goal.invariant-loop-read
invariant-loop-read g l =
    (l.read-iterator.job.now ≡ l.job)
    × Printed (lent l.initial.routed l.initial.bridge l.initial.area l.initial.tally) l.job (g.W.Write.contents l.initial.out) l.machine (lent l.routed l.bridge l.area l.tally) l.read-iterator.at (g.W.Write.contents l.out)
