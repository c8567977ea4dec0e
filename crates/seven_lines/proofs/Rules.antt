-- The rules that the marked lines hold.
use Rattle.std.proofs.Common.{◌≡◌, List, ap}
use Rattle.kinds.specs.Lines.{rules_of}
use Rattle.kinds.specs.declared.line.Line.{Line}
use Rattle.bridge.specs.Bridge.{bridge}
use Rattle.bridge.specs.declared.rule.Row.{Row}
use Rattle.seven_lines.specs.Seven.{marked_lines, seven}

pub rules_of_marked : (lines : List (Line Row)) → lines ≡ marked_lines → rules_of bridge lines ≡ seven
rules_of_marked lines made = ap (rules_of bridge) made
