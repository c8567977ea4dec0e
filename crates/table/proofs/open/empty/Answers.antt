use Rattle.std.proofs.Common.{rules, get_or}
use Rattle.std.proofs.lemmas.List.Edits.{map_over_more}
use Rattle.table.specs.Lines.{emptied}
use Rattle.table.proofs.open.empty.Goals as goal

pub loop-line-preserved : goal.loop-line-preserved
loop-line-preserved g c =
    let i = c.loop-line.line-index in
    map_over_more emptied c.args.lines.now c.loop-line.lines i (get_or c.loop-line.lines i c.line-item.result) (search rules) c.loop-line.invariant (search rules)
