use Rattle.std.proofs.Common.{◌≡◌, ◌+◌, sum}
use Rattle.blocks.specs.Plans.{rules_in}
use Rattle.blocks.proofs.Sizes.{sizes_below}
use Rattle.blocks.proofs.count.count_into.Given as goal

abbrev pub invariant-loop-line : goal.invariant-loop-line
invariant-loop-line g l = record {
  counted : l.numbers ≡ sizes_below g.K.Kind.meaning (rules_in g.K.Kind.meaning l.plan) l.plan.bits.now l.line;
  left : l.left + sum l.numbers ≡ l.room;
}
