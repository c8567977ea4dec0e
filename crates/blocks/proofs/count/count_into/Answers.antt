use Rattle.std.proofs.Common.{◌≡◌, ℕ, ◌^◌, length, replicate, sum, ap, ◌∙◌, arith}
use Rattle.blocks.specs.Blocks.{sizes, cells_naming}
use Rattle.blocks.specs.Plans.{rules_in}
use Rattle.blocks.proofs.Plans.{the_cells}
use Rattle.blocks.proofs.Raising.{left_none, left_some, told_none, told_some}
use Rattle.blocks.proofs.Sizes.{none_below, sum_none_below}
use Rattle.blocks.proofs.Counts.{may, sum_next, sum_le, counted_next, counted_all}
use Rattle.blocks.proofs.count.count_into.Goals as goal

pub loop-line-init : goal.loop-line-init
loop-line-init g c =
    let zeros : c.clear_from.new.numbers ≡ replicate (2 ^ length c.args.plan.now.bits.now) 0 = c.clear_from.ensures ∙ ap (λ (n : ℕ). replicate n 0) (omega arith) in
    record {
      counted = none_below g.K.Kind.meaning (rules_in g.K.Kind.meaning c.args.plan.now) c.args.plan.now.bits.now c.clear_from.new.numbers zeros;
      left = omega (arith, sum_none_below g.K.Kind.meaning (rules_in g.K.Kind.meaning c.args.plan.now) c.args.plan.now.bits.now c.clear_from.new.numbers zeros);
    }

pub raise_line-requires : goal.raise_line-requires
raise_line-requires g c = may g.K.Kind.meaning c.args.plan.now c.loop-line.line c.loop-line.invariant.counted (the_cells g.K.Kind.meaning c.args.plan.now c.loop-line.line) c.loop-line-test.true (omega arith)

pub returns-in_err-left-clause-left : goal.returns-in_err-left-clause-left
returns-in_err-left-clause-left g c =
    let most = sum_le g.K.Kind.meaning c.args.plan.now c.loop-line.line c.loop-line.invariant.counted (the_cells g.K.Kind.meaning c.args.plan.now c.loop-line.line) c.loop-line-test.true in
    c.from_residual.ensures ∙ left_none c.args.room (sum (sizes g.K.Kind.meaning (rules_in g.K.Kind.meaning c.args.plan.now) c.args.plan.now.bits.now))
    (omega (arith, most, c.loop-line.invariant.left, told_none c.loop-line.left (length (cells_naming g.K.Kind.meaning (rules_in g.K.Kind.meaning c.args.plan.now) c.args.plan.now.bits.now c.loop-line.line)) c.in_err-left.ensures.left))

pub loop-line-preserved : goal.loop-line-preserved
loop-line-preserved g c =
    let next = counted_next g.K.Kind.meaning c.args.plan.now c.loop-line.line c.loop-line.invariant.counted (the_cells g.K.Kind.meaning c.args.plan.now c.loop-line.line) c.loop-line-test.true c.in_ok-left.ensures.raised in
    let more = sum_next g.K.Kind.meaning c.args.plan.now c.loop-line.line c.loop-line.invariant.counted (the_cells g.K.Kind.meaning c.args.plan.now c.loop-line.line) c.loop-line-test.true in
    record {
      counted = next;
      left = omega (arith, more, ap sum next, c.loop-line.invariant.left, told_some c.loop-line.left (length (cells_naming g.K.Kind.meaning (rules_in g.K.Kind.meaning c.args.plan.now) c.args.plan.now.bits.now c.loop-line.line)) c.in_ok-left.left c.in_ok-left.ensures.left);
    }

pub returns-clause-left : goal.returns-clause-left
returns-clause-left g c =
    let all = counted_all g.K.Kind.meaning c.args.plan.now c.loop-line.line c.loop-line.invariant.counted (omega arith) in
    left_some c.args.room (sum (sizes g.K.Kind.meaning (rules_in g.K.Kind.meaning c.args.plan.now) c.args.plan.now.bits.now)) c.loop-line.left (omega (arith, ap sum all, c.loop-line.invariant.left))

pub returns-clause-counted : goal.returns-clause-counted
returns-clause-counted g c = counted_all g.K.Kind.meaning c.args.plan.now c.loop-line.line c.loop-line.invariant.counted (omega arith)
