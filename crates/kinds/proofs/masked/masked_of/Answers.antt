use Rattle.std.proofs.Common.{◌≡◌, ◌+◌, ◌-◌, ◌^◌, bit_and, length, sym, subst, refl, arith}
use Rattle.std.specs.Int.Bits.{and_zero_l}
use Rattle.kinds.specs.Parts.{AreDigits}
use Rattle.kinds.proofs.Masks.{room, by_parts, none_admitted}
use Rattle.kinds.proofs.masked.masked_of.Goals as goal
use Rattle.kinds.proofs.masked.masked_of.Goals.{then-shared-least, else-shared-least}

pub overflow_sub-result : goal.overflow_sub-result
overflow_sub-result g c = omega (arith, c.requires.all, room (g.R.Alone.alone c.args.rule.now) c.args.chosen.now c.ends-least.ensures)

pub invariant_of-result : goal.invariant_of-result
invariant_of-result g c =
    let ends = c.ends-least.result in
    let free = ends.1 - bit_and ends.0 ends.1 in
    let below = room (g.R.Alone.alone c.args.rule.now) c.args.chosen.now c.ends-least.ensures in
    record {
      cells = (length c.args.chosen.now, omega (arith, c.requires.all), omega (arith, c.requires.few, c.requires.all));
      below = omega (arith, c.requires.all);
      digits = elim c.if-shared-least.branch [
        | then-shared-least w ↦ subst (AreDigits free) (sym w.next-is) (and_zero_l free)
        | else-shared-least w ↦ subst (AreDigits free) (sym w.next-is) tt
      ];
    }

pub returns : goal.returns
returns g c =
    let alone = g.R.Alone.alone c.args.rule.now in
    let ends = c.ends-least.result in
    let below = room alone c.args.chosen.now c.ends-least.ensures in
    let whole : ends.1 - bit_and ends.0 ends.1 + (c.args.cells - (ends.1 - bit_and ends.0 ends.1)) ≡ 2 ^ length c.args.chosen.now = omega (arith, c.requires.all) in
    elim c.if-shared-least.branch [
      | then-shared-least w ↦ by_parts alone c.args.chosen.now c.ends-least.ensures _ _ refl whole w.if-shared-least.true w.next-is
      | else-shared-least w ↦ none_admitted alone c.args.chosen.now c.ends-least.ensures _ _ refl whole w.if-shared-least.false w.next-is
    ]
