use Rattle.std.proofs.Common.{◌≡◌, ◌++◌, map, take, drop}
use Rattle.table.specs.Lines.{emptied}
use Rattle.table.proofs.open.empty.Given as goal

abbrev pub invariant-loop-line : goal.invariant-loop-line
invariant-loop-line g l = l.lines ≡ map emptied (take l.line-index l.initial.lines) ++ drop l.line-index l.initial.lines
