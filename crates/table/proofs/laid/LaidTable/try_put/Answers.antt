use Rattle.std.proofs.Common.{rules, ◌++◌, length, Some}
use Rattle.kinds.specs.Lines.{rules_of}
use Rattle.table.specs.Checks.{memory_checks, put_checks}
use Rattle.table.specs.Lines.{Holds}
use Rattle.table.proofs.Calls.{relaid}
use Rattle.table.proofs.laid.LaidTable.try_put.Goals as goal

pub returns : goal.returns
returns g c =
    let k = g.K.Kind.meaning in
    let change = c.in_ok-change.change in
    let front = memory_checks c.args.self.now.shape (length c.args.lines.now) (length c.args.area.now) ++ put_checks (rules_of k c.args.lines.now) c.args.line in
    relaid k _ _ _ c.args.line change.line (Holds k c.args.rule.now) front (Some c.args.rule.now) change.place c.change.result
    (search rules) (search rules) (search rules) (search rules) c.change.ensures.answer c.change.ensures.lines c.change.ensures.area c.change.ensures.tally
