use Rattle.std.proofs.Common.{◌≡◌, ◌+◌, ◌*◌, ◌^◌, ◌<◌, length, drop}
use Rattle.routed.specs.Turns.{most}
use Rattle.routed.proofs.ports.most_up_to.Given as goal

abbrev pub invariant-loop-bit : goal.invariant-loop-bit
invariant-loop-bit l = record {
  small : l.most < 4096;
  so_far : l.most * 2 ^ length (drop l.bit-index l.chosen) + most l.sixteen l.size l.rest (drop l.bit-index l.chosen) ≡ most l.sixteen l.size l.end l.chosen;
}
