use Rattle.std.proofs.Common.{ap, ◌∙◌}
use Rattle.job.specs.Jobs.{lent}
use Rattle.job.proofs.Runs.{nothing_printed, one_printed, not_printed, all_printed}
use Rattle.job.proofs.running.run_through.Goals as goal

pub loop-read-init : goal.loop-read-init
loop-read-init g c =
    let at_first = ap (λ r. r.at) c.into_iter-read-iterator.ensures.into_iter_gives ∙ c.new-read-items.ensures.at in
    let job = ap (λ r. r.job.now) c.into_iter-read-iterator.ensures.into_iter_gives ∙ c.new-read-items.ensures.job in
    (job, nothing_printed (lent c.args.routed.now c.args.bridge.now c.args.area.now c.args.tally.now) c.args.job.now (g.W.Write.contents c.args.out.now) c.into_iter-read-iterator.result.at at_first)

pub loop-read-preserved : goal.loop-read-preserved
loop-read-preserved g c = (
  c.in-Some.ensures.steps.0 ∙ c.loop-read.invariant.0,
  one_printed (lent c.args.routed.now c.args.bridge.now c.args.area.now c.args.tally.now) c.args.job.now (g.W.Write.contents c.args.out.now) (g.W.Write.contents c.loop-read.out)
      c.loop-read.machine c.reply-next.result.0 (lent c.loop-read.routed c.loop-read.bridge c.loop-read.area c.loop-read.tally) (lent c.reply-next.new.routed c.reply-next.new.bridge c.reply-next.new.area c.reply-next.new.tally)
      c.loop-read.read-iterator.at c.next.new.self.at c.in-Some.read c.reply-next.result.1 c.loop-read.invariant.1 c.loop-read.read-iterator.job.now (c.loop-read.invariant.0, c.in-Some.ensures.steps.1) c.reply-next.ensures
      (g.W.Write.contents c.print.new.out) c.in_ok-print.ensures.text,
)

pub returns-in_err-print : goal.returns-in_err-print
returns-in_err-print g c =
    not_printed (lent c.args.routed.now c.args.bridge.now c.args.area.now c.args.tally.now) c.args.job.now (g.W.Write.contents c.args.out.now) (g.W.Write.contents c.loop-read.out)
    c.loop-read.machine c.reply-next.result.0 (lent c.loop-read.routed c.loop-read.bridge c.loop-read.area c.loop-read.tally) (lent c.reply-next.new.routed c.reply-next.new.bridge c.reply-next.new.area c.reply-next.new.tally)
    c.loop-read.read-iterator.at c.next.new.self.at c.in-Some.read c.reply-next.result.1 c.loop-read.invariant.1 c.loop-read.read-iterator.job.now (c.loop-read.invariant.0, c.in-Some.ensures.steps.1) c.reply-next.ensures
    (g.W.Write.contents c.print.new.out) c.from_residual.result c.from_residual.ensures.0 c.in_err-print.ensures.failed

pub returns : goal.returns
returns g c =
    all_printed (lent c.args.routed.now c.args.bridge.now c.args.area.now c.args.tally.now) c.args.job.now (g.W.Write.contents c.args.out.now) (g.W.Write.contents c.loop-read.out)
    c.loop-read.machine (lent c.loop-read.routed c.loop-read.bridge c.loop-read.area c.loop-read.tally) c.loop-read.read-iterator.at c.loop-read.invariant.1
    (rw c.loop-read.invariant.0 at c.loop-read.read-iterator.inside) c.loop-read.read-iterator.job.now c.next.new.self.at (c.loop-read.invariant.0, c.in-None.ensures.steps.1)
