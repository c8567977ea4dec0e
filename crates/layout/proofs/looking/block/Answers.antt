use Rattle.std.proofs.Common.{rules}
use Rattle.layout.specs.declared.spoilt.Spoilt.TheVariants.{Bounds}
use Rattle.layout.proofs.Looks.{block_is, never_bad}
use Rattle.layout.proofs.looking.block.Goals as goal

pub returns-then-area-base-clause-facts : goal.returns-then-area-base-clause-facts
returns-then-area-base-clause-facts g c laid_rules is_laid = never_bad g.K.Kind.meaning laid_rules c.args.bits.now c.args.area.now c.args.header.now is_laid Bounds (search rules)

pub returns-then-from-to-clause-facts : goal.returns-then-from-to-clause-facts
returns-then-from-to-clause-facts g c laid_rules is_laid = never_bad g.K.Kind.meaning laid_rules c.args.bits.now c.args.area.now c.args.header.now is_laid Bounds (search rules)

pub returns-clause-facts : goal.returns-clause-facts
returns-clause-facts g c laid_rules is_laid = block_is g.K.Kind.meaning laid_rules c.args.bits.now c.args.area.now c.args.header.now is_laid _ (search rules)
