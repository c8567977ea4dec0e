use Rattle.std.proofs.Common.{arith}
use Rattle.std.proofs.lemmas.Nat.{one_shl}
use Rattle.routed.proofs.Spread.{most_at_most, most_of_all, span_tells}
use Rattle.routed.proofs.ports.span_below.Goals as goal

pub overflow_sub-result : goal.overflow_sub-result
overflow_sub-result c =
    let size = one_shl c.args.place 32 (omega arith) in
    let all = rw size at c.most_up_to-digits.ensures.most in
    let over = rw size at c.most_up_to.ensures.most in
    omega (arith, most_at_most c.args.sixteen c.args.place c.args.over c.args.chosen.now, most_of_all c.args.sixteen c.args.place c.args.chosen.now c.requires.bits)

pub returns : goal.returns
returns c =
    let size = one_shl c.args.place 32 (omega arith) in
    let all = rw size at c.most_up_to-digits.ensures.most in
    let over = rw size at c.most_up_to.ensures.most in
    let under = rw size at c.most_up_to-2.ensures.most in
    span_tells c.args.sixteen c.args.place c.args.chosen.now c.requires.bits c.args.over c.args.under _ _ _ c.args.around all (omega arith) under
