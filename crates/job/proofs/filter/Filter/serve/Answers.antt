use Rattle.std.proofs.Common.{rules}
use Rattle.job.specs.Books.{lines_of}
use Rattle.job.proofs.Parts.{part_taken, part_found, rest_kept}
use Rattle.job.proofs.filter.Filter.serve.Goals as goal

pub returns-clause-answer : goal.returns-clause-answer
returns-clause-answer g c =
    let own = c.min-own.result in
    rw (
      part_found (lines_of c.args.self) own c.args.lines.now c.step.new.lines (search rules) (search rules),
      part_taken (lines_of c.args.self) own c.args.lines.now c.step.new.lines (search rules) (search rules),
    ) c.step.ensures

pub returns-clause-others : goal.returns-clause-others
returns-clause-others g c = rest_kept (lines_of c.args.self) c.min-own.result c.args.lines.now c.step.new.lines (search rules) (search rules)
