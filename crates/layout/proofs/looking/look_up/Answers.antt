use Rattle.std.proofs.Common.{rules, length}
use Rattle.kinds.specs.Lines.{rules_of}
use Rattle.blocks.specs.Cells.{cell_of}
use Rattle.layout.specs.LookUp.{block_in}
use Rattle.layout.proofs.Looks.{finds_lowest}
use Rattle.layout.proofs.Tries.{looks}
use Rattle.layout.proofs.looking.look_up.Goals as goal

pub returns-clause-walk : goal.returns-clause-walk
returns-clause-walk g c = looks g.K.Kind.meaning (rules_of g.K.Kind.meaning c.args.lines.now) c.args.header.now (block_in (length c.args.bits.now) c.args.area.now (cell_of g.K.Kind.meaning c.args.bits.now c.args.header.now)) c.walk.result (search rules)

pub returns-clause-facts : goal.returns-clause-facts
returns-clause-facts g c is_laid = finds_lowest _ _ _ _ _ is_laid g.met.K.Kind.lawful c.block.ensures.bits c.walk.result (search rules)
