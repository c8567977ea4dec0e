use Rattle.std.proofs.Common.{◌≡◌, length}
use Rattle.kinds.specs.Values.{each, valued}
use Rattle.kinds.proofs.alone.admits_each.Given as goal

abbrev pub invariant-loop-bit : goal.invariant-loop-bit
invariant-loop-bit g l = record {
  behind : l.behind ≡ length l.bit-iterator;
  same : each (g.R.Alone.alone l.rule) (valued l.bit-iterator l.cell) ≡ each (g.R.Alone.alone l.rule) (valued l.bits l.cell);
}
