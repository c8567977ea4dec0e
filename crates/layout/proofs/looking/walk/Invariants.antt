use Rattle.std.proofs.Common.{◌≡◌, drop}
use Rattle.kinds.specs.Lines.{rules_of}
use Rattle.layout.specs.LookUp.{walked}
use Rattle.layout.proofs.looking.walk.Given as goal

abbrev pub invariant-loop-before : goal.invariant-loop-before
invariant-loop-before g l =
    walked g.K.Kind.meaning (rules_of g.K.Kind.meaning l.lines) l.header 0 l.entries ≡ walked g.K.Kind.meaning (rules_of g.K.Kind.meaning l.lines) l.header l.before (drop l.before l.entries)
