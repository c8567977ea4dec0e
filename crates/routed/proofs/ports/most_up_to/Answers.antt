use Rattle.std.proofs.Common.{ℕ, ◌+◌, ◌∷◌, drop, sym, ap, ◌∙◌, arith}
use Rattle.std.proofs.lemmas.List.{drop_more, drop_all}
use Rattle.std.proofs.lemmas.Bool.Decides.{nat_tests}
use Rattle.routed.proofs.Mosts.{most_below, most_step, few_so_far}
use Rattle.routed.proofs.ports.most_up_to.Goals as goal

pub loop-bit-preserved : goal.loop-bit-preserved
loop-bit-preserved c =
    let chosen = c.args.chosen.now in
    let left = drop (c.loop-bit.bit-index + 1) chosen in
    let is = drop_more chosen c.loop-bit.bit-index 0 c.loop-bit-test.true ∙ ap (λ (x : ℕ). x ∷ left) (sym c.from.ensures) in
    let next = most_step _ _ _ _ _ _ c.loop-bit.invariant.so_far _ left is c.if-digit-gt0.most c.if-digit-gt0.rest (grind (arith, nat_tests)) (grind (arith, nat_tests)) in
    record { small = few_so_far _ _ _ _ _ _ next chosen c.requires.few (most_below c.args.sixteen c.args.size c.args.end chosen); so_far = next }

pub returns : goal.returns
returns c =
    let whole = rw (drop_all c.loop-bit.bit-index c.args.chosen.now c.loop-bit-test.false) at c.loop-bit.invariant.so_far in
    record { most = omega arith; below = omega (arith, most_below c.args.sixteen c.args.size c.args.end c.args.chosen.now) }
