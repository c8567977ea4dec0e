use Rattle.std.proofs.Common.{◌≡◌}
use Rattle.blocks.specs.Plans.{rules_in}
use Rattle.layout.proofs.Placing.{cursors_at, Written}
use Rattle.layout.proofs.entries.write_blocks.Given as goal

abbrev pub invariant-loop-line : goal.invariant-loop-line
invariant-loop-line g l = record {
  cursors : l.cursors ≡ cursors_at g.K.Kind.meaning (rules_in g.K.Kind.meaning l.plan) l.plan.bits.now l.line;
  written : Written g.K.Kind.meaning (rules_in g.K.Kind.meaning l.plan) l.plan.bits.now l.line l.entries;
}
