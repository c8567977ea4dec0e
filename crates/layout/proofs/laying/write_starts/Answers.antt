use Rattle.std.proofs.Common.{take, sum, ap, ◌∙◌, arith}
use Rattle.layout.proofs.Starts.{all_starts, front_starts}
use Rattle.layout.proofs.laying.write_starts.Goals as goal

pub returns-clause-starts : goal.returns-clause-starts
returns-clause-starts c = all_starts c.args.numbers.now c.loop-cell.starts c.loop-cell.start _ (omega arith) (omega arith) (λ i lt. c.loop-cell.invariant.starts i (omega arith)) (c.loop-cell.invariant.start ∙ ap (λ i. sum (take i c.args.numbers.now)) (omega arith))

pub returns-clause-numbers : goal.returns-clause-numbers
returns-clause-numbers c = front_starts c.args.numbers.now c.loop-cell.numbers c.loop-cell.cell (omega arith) (omega arith) c.loop-cell.invariant.numbers
