use Rattle.std.proofs.Common.{◌≡◌, ℕ, true, false, not, ◌+◌, ◌∷◌, drop, ap, ap₂}
use Rattle.std.proofs.lemmas.List.{drop_more, drop_all}
use Rattle.kinds.proofs.Numbers.{number_turn, number_few, number_last}
use Rattle.kinds.proofs.masked.ends.Goals as goal

pub loop-bit-preserved : goal.loop-bit-preserved
loop-bit-preserved g c =
    let so_far = c.loop-bit.invariant in
    let bits = c.args.chosen.now in
    let low = λ (b : ℕ). not (g.R.Alone.alone c.args.rule.now b false) in
    let high = λ (b : ℕ). g.R.Alone.alone c.args.rule.now b true in
    let rest = drop (c.loop-bit.bit-index + 1) bits in
    let is : drop c.loop-bit.bit-index bits ≡ c.from-bit.result ∷ rest =
    rw c.from-bit.ensures (drop_more bits c.loop-bit.bit-index 0 c.loop-bit-test.true) in
    let least = number_turn low bits c.loop-bit.least is (ap not {y = g.R.Alone.alone c.args.rule.now c.from-bit.result false} c.admits_alone.ensures) c.from.ensures so_far.least in
    let largest = number_turn high bits c.loop-bit.largest is c.admits_alone-in-loop-bit.ensures c.from-in-loop-bit.ensures so_far.largest in
    record {
      few = number_few low bits rest _ c.requires least;
      many = number_few high bits rest _ c.requires largest;
      least = least;
      largest = largest;
    }

pub returns : goal.returns
returns g c =
    let bits = c.args.chosen.now in
    let low = λ (b : ℕ). not (g.R.Alone.alone c.args.rule.now b false) in
    let high = λ (b : ℕ). g.R.Alone.alone c.args.rule.now b true in
    let none = drop_all c.loop-bit.bit-index bits c.loop-bit-test.false in
    ap₂ (λ (l m : ℕ). (l, m)) (number_last low bits _ none c.loop-bit.invariant.least) (number_last high bits _ none c.loop-bit.invariant.largest)
