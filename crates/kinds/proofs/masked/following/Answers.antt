use Rattle.std.proofs.Common.{◌+◌, bit_and, refl, ◌∙◌, ap, arith}
use Rattle.std.proofs.lemmas.Nat.{and_assoc}
use Rattle.std.specs.Int.Bits.{and_self}
use Rattle.kinds.proofs.Parts.{parts_last, parts_next}
use Rattle.kinds.proofs.masked.following.Goals as goal

pub returns-then-digits-mask-clause-next : goal.returns-then-digits-mask-clause-next
returns-then-digits-mask-clause-next c = parts_last c.requires.power.0 (c.args.mask + c.args.gap) c.args.mask c.args.digits c.requires.power.1 (omega arith) c.requires.digits c.if-digits-mask.true

pub returns-clause-next : goal.returns-clause-next
returns-clause-next c = parts_next c.requires.power.0 (c.args.mask + c.args.gap) c.args.mask c.args.digits c.requires.power.1 (omega arith) c.requires.digits c.if-digits-mask.false c.args.gap refl

pub returns-clause-digits : goal.returns-clause-digits
returns-clause-digits c = and_assoc c.args.mask (c.args.digits + c.args.gap) c.args.mask ∙ ap (bit_and (c.args.digits + c.args.gap)) (and_self c.args.mask)
