use Rattle.std.proofs.Common.{ℕ, ◌+◌, ◌/◌, ◌<◌, ◌≤◌, List, length, get_or, set, refl, ap, subst, ◌∙◌, sym, arith}
use Rattle.std.specs.List.{All}
use Rattle.std.proofs.lemmas.List.{length-set, get_or-replicate}
use Rattle.std.proofs.lemmas.List.Elements.{All-head, All-tail}
use Rattle.bits.specs.Sixteens.{sixteen}
use Rattle.bits.proofs.Sixteens.{joined, sixteen_few}
use Rattle.bits.proofs.chosen.Chosen.new.Goals as goal

pub loop-bit-init : goal.loop-bit-init
loop-bit-init c =
    let is = c.into_iter-bit-iterator.ensures.into_iter_gives in
    record {
      few = subst (λ (l : List ℕ). length l ≤ 12) is.0 is.1.few;
      below = is.1.below;
      len = refl;
      so_far = λ k lt. omega (arith, get_or-replicate {A = ℕ} 64 k 0 0 lt, ap (sixteen k) is.0);
    }

pub bounds-sixteens-bit : goal.bounds-sixteens-bit
bounds-sixteens-bit c =
    let below = All-head (λ b. b < 1024) c.in-Some.bit c.next.new.self (subst (All (λ b. b < 1024)) c.in-Some.ensures.steps c.loop-bit.invariant.below) in
    omega arith

pub overflow_add-sixteens : goal.overflow_add-sixteens
overflow_add-sixteens c =
    let k = c.in-Some.bit / 16 in
    let below = All-head (λ b. b < 1024) c.in-Some.bit c.next.new.self (subst (All (λ b. b < 1024)) c.in-Some.ensures.steps c.loop-bit.invariant.below) in
    omega (arith, c.loop-bit.invariant.so_far k (omega arith), ap (sixteen k) c.in-Some.ensures.steps, c.worth.ensures.answer, sixteen_few k c.args.bits.now, c.loop-bit.invariant.few)

pub loop-bit-preserved : goal.loop-bit-preserved
loop-bit-preserved c =
    let is = c.in-Some.ensures.steps in
    let below = subst (All (λ b. b < 1024)) is c.loop-bit.invariant.below in
    let inside : c.in-Some.bit / 16 < length c.loop-bit.sixteens = omega (arith, All-head (λ b. b < 1024) c.in-Some.bit c.next.new.self below, c.loop-bit.invariant.len) in
    record {
      few = c.loop-bit.invariant.few;
      below = All-tail (λ b. b < 1024) c.in-Some.bit c.next.new.self below;
      len = length-set c.loop-bit.sixteens (c.in-Some.bit / 16) _ ∙ c.loop-bit.invariant.len;
      so_far = λ k lt. ap (λ (w : ℕ). get_or (set c.loop-bit.sixteens (c.in-Some.bit / 16) (get_or c.loop-bit.sixteens (c.in-Some.bit / 16) 0 + w)) k 0 + sixteen k c.next.new.self) c.worth.ensures.answer ∙ joined k c.in-Some.bit c.loop-bit.sixteens c.next.new.self (sixteen k c.args.bits.now) inside (ap (λ (l : List ℕ). get_or c.loop-bit.sixteens k 0 + sixteen k l) (sym is) ∙ c.loop-bit.invariant.so_far k lt);
    }
