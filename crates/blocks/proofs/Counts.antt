-- One turn of counting a plan's block sizes: the line at a place is counted.
use Rattle.std.proofs.Common.{◌≡◌, ℕ, ◌+◌, ◌^◌, ◌<◌, ◌≤◌, All, List, length, get_or, None, sum, Option, sym, ap, ◌∙◌, subst, arith}
use Rattle.kinds.specs.Meaning.{Meaning}
use Rattle.blocks.specs.Blocks.{admits_line, cells_naming, sizes}
use Rattle.blocks.specs.Plans.{rules_in}
use Rattle.blocks.specs.Raising.{raised, MayRaise}
use Rattle.blocks.specs.declared.plan.Plan.{Plan}
use Rattle.blocks.proofs.Plans.{length-rules_in, few_entries}
use Rattle.blocks.proofs.Raising.{all_inside, may_raise}
use Rattle.blocks.proofs.Sizes.{sizes_below, line_raised, sum_more, sum_below_le, all_below, length-sizes_below}

module _ {Header Rule Row : Type 0} (k : Meaning Header Rule Row) (plan : Plan Row) where
  abbrev rules : List (Option Rule)
  rules = rules_in k plan

  abbrev bits : List ℕ
  bits = plan.bits.now

  module _ (line : ℕ) {numbers cells : List ℕ} (counted : numbers ≡ sizes_below k rules bits line) (named : cells ≡ cells_naming k rules bits line) (got : line < length plan.lines.now) where
    here : line < length rules
    here = omega (arith, length-rules_in k plan)

    inside : All (λ cell. cell < length numbers) cells
    inside =
        let all = all_inside (λ c. admits_line k (get_or rules line None) bits c) (2 ^ length bits) in
        subst (λ (cs : List ℕ). All (λ cell. cell < length numbers) cs) (sym named) (subst (λ (n : ℕ). All (λ cell. cell < n) (cells_naming k rules bits line)) (sym (ap length counted ∙ length-sizes_below k rules bits line)) all)

    pub sum_next : sum numbers + length cells ≡ sum (sizes_below k rules bits (line + 1))
    sum_next = omega (arith, ap sum counted, ap length named, sum_more k rules bits line here)

    pub sum_le : sum numbers + length cells ≤ sum (sizes k rules bits)
    sum_le = omega (arith, sum_next, sum_below_le k rules bits (line + 1))

    pub may : 2 ^ length bits ≤ 4096 → MayRaise cells numbers
    may few = may_raise cells numbers inside (omega (arith, sum_le, few_entries k plan few))

    pub counted_next : {after : List ℕ} → after ≡ raised cells numbers → after ≡ sizes_below k rules bits (line + 1)
    counted_next is = is ∙ ap (λ (cs : List ℕ). raised cs numbers) named ∙ ap (raised (cells_naming k rules bits line)) counted ∙ line_raised k rules bits line here

  pub counted_all : (line : ℕ) {numbers : List ℕ} → numbers ≡ sizes_below k rules bits line → length plan.lines.now ≤ line → numbers ≡ sizes k rules bits
  counted_all line counted le = counted ∙ all_below k rules bits line (omega (arith, length-rules_in k plan))
