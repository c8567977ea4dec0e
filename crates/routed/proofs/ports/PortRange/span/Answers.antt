use Rattle.std.proofs.Common.{◌≡◌, suc, ◌+◌, Bool, ◌&&◌, ap, ◌∙◌, inl, inr, arith}
use Rattle.std.proofs.Math.Bool.{and-true}
use Rattle.kinds.specs.Values.{each, valued}
use Rattle.kinds.proofs.Whole.{in_whole}
use Rattle.routed.specs.Ranges.{ends_admit}
use Rattle.routed.specs.Turns.{own}
use Rattle.routed.proofs.Reaches.{around_exact, between_exact}
use Rattle.routed.proofs.Spread.{own_asked, own_even}
use Rattle.routed.proofs.ports.PortRange.span.Goals as goal

pub returns-then-is_even : goal.returns-then-is_even
returns-then-is_even c cell =
    let asked = own c.args.sixteen (valued c.args.chosen.now cell) in
    ap (λ (t : Bool). each (ends_admit c.args.self.now) asked && t) (in_whole cell)
    ∙ and-true (each (ends_admit c.args.self.now) asked)
    ∙ own_even c.args.self.now c.args.sixteen c.args.chosen.now c.sixteen-digits.ensures.bits c.sixteen-digits.ensures.answer (c.is_even.ensures.even c.if-is_even.true) cell

pub returns-else-digits-size-eq0 : goal.returns-else-digits-size-eq0
returns-else-digits-size-eq0 c cell =
    let digits = c.sixteen-digits.ensures in
    let place : c.turn-place.result.place + 1 ≡ suc c.turn-place.result.place = omega arith in
    elim c.turn-place.ensures.turns [
      | inl one ↦ let even = c.is_even.ensures.one one.0 in cc
      | inr turns ↦
          rw (c.span_below-else-digits-size-eq0.ensures cell, c.as_slice-chosen.ensures.bits, place, c.turn-place.ensures.size)
          (rw c.turn-place.ensures.size at (between_exact c.args.self.now _ _ _ turns _ _ (own_asked c.args.sixteen cell c.args.chosen.now digits.bits digits.answer) (λ none. c.if-digits-size-eq0.false (cc))))
    ]

pub returns-then-digits-size-eq0 : goal.returns-then-digits-size-eq0
returns-then-digits-size-eq0 c cell =
    let digits = c.sixteen-digits.ensures in
    elim c.turn-place.ensures.turns [
      | inl one ↦ let even = c.is_even.ensures.one one.0 in cc
      | inr turns ↦
          rw (c.span_below.ensures cell, c.as_slice-chosen.ensures.bits) (around_exact c.args.self.now _ _ _ turns _ _ (own_asked c.args.sixteen cell c.args.chosen.now digits.bits digits.answer) (cc))
    ]
