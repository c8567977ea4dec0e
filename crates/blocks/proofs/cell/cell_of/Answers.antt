use Rattle.std.proofs.Common.{◌≡◌, ℕ, ◌+◌, ◌∷◌, List, take, drop, length, get_or, sym, ap, ◌∙◌, arith}
use Rattle.std.proofs.lemmas.List.{drop_more, drop_all}
use Rattle.kinds.proofs.Numbers.{number_turn, number_few, number_last, number_below, byte_few}
use Rattle.blocks.proofs.cell.cell_of.Goals as goal

pub overflow_mul-cell : goal.overflow_mul-cell
overflow_mul-cell g c = omega (arith, number_few (g.K.Kind.meaning.bit c.args.header.now) c.args.bits.now _ _ (omega (arith, c.len.ensures.answer)) c.loop-bit.invariant)

pub overflow_add-cell : goal.overflow_add-cell
overflow_add-cell g c = omega (arith, number_few (g.K.Kind.meaning.bit c.args.header.now) c.args.bits.now _ _ (omega (arith, c.len.ensures.answer)) c.loop-bit.invariant, byte_few c.bit.result)

pub loop-bit-preserved : goal.loop-bit-preserved
loop-bit-preserved g c =
    let i = c.loop-bit.bit-index in
    let same : take c.len.result c.places-places.result ≡ c.args.bits.now = ap (λ (n : ℕ). take n c.places-places.result) c.len.ensures.answer ∙ c.places-places.ensures.held in
    let here : get_or c.args.bits.now i 0 ≡ c.from.result = sym (c.from.ensures ∙ ap (λ (l : List ℕ). get_or l i 0) same) in
    let is : drop i c.args.bits.now ≡ c.from.result ∷ drop (i + 1) c.args.bits.now = drop_more c.args.bits.now i 0 (omega (arith, ap length same)) ∙ ap (λ (b : ℕ). b ∷ drop (i + 1) c.args.bits.now) here in
    number_turn (g.K.Kind.meaning.bit c.args.header.now) c.args.bits.now c.loop-bit.cell is c.bit.ensures c.from-in-loop-bit.ensures c.loop-bit.invariant

pub returns-clause-bound : goal.returns-clause-bound
returns-clause-bound g c =
    let same : take c.len.result c.places-places.result ≡ c.args.bits.now = ap (λ (n : ℕ). take n c.places-places.result) c.len.ensures.answer ∙ c.places-places.ensures.held in
    let value = g.K.Kind.meaning.bit c.args.header.now in
    omega (arith, number_below value c.args.bits.now, number_last value c.args.bits.now c.loop-bit.cell (drop_all c.loop-bit.bit-index c.args.bits.now (omega (arith, ap length same))) c.loop-bit.invariant)
