-- A whole table by its parts: the starts, all blocks, and zeros.
use Rattle.std.proofs.Common.{◌≡◌, ℕ, ◌+◌, ◌-◌, ◌^◌, ◌<◌, ◌≤◌, List, ◌++◌, length, get_or, take, replicate, sum, sym, ap, ap₂, ◌∙◌, arith}
use Rattle.std.specs.List.{flat_map}
use Rattle.std.proofs.lemmas.List.{append_assoc, take_all}
use Rattle.kinds.specs.Meaning.{Meaning}
use Rattle.blocks.specs.Blocks.{blocks, sizes, table_size}
use Rattle.blocks.specs.Plans.{rules_in}
use Rattle.blocks.specs.declared.plan.Plan.{Plan}
use Rattle.blocks.proofs.Plans.{few_entries}
use Rattle.blocks.proofs.Sizes.{length-sizes}
use Rattle.layout.specs.Layout.{starts, laid}
use Rattle.layout.proofs.Starts.{get_or_starts}

module _ {Header Rule Row : Type 0} (k : Meaning Header Rule Row) (plan : Plan Row) (cells : ℕ) (tally : List ℕ) (are : cells ≡ 2 ^ length plan.bits.now) (counted : take (2 ^ length plan.bits.now) tally ≡ sizes k (rules_in k plan) plan.bits.now) where
  abbrev all : List ℕ
  all = sizes k (rules_in k plan) plan.bits.now

  abbrev entries : List ℕ
  entries = flat_map (λ b. b) (blocks k (rules_in k plan) plan.bits.now)

  pub front_is : take cells tally ≡ all
  front_is = ap (λ (n : ℕ). take n tally) are ∙ counted

  pub few_in_all : cells ≤ 4096 → sum (take cells tally) < 2 ^ 32
  few_in_all few = omega (arith, ap sum front_is, few_entries k plan (omega arith))

  module _ (written : List ℕ) (is : written ≡ starts (take cells tally)) where
    starts_are : written ≡ starts all
    starts_are = is ∙ ap starts front_is

    pub last_start : get_or written cells 0 ≡ sum all
    last_start =
        let long : length all ≡ cells = omega (arith, length-sizes k (rules_in k plan) plan.bits.now) in
        ap (λ (xs : List ℕ). get_or xs cells 0) starts_are ∙ get_or_starts all cells (omega arith) ∙ ap sum (take_all cells all (omega arith))

    pub whole : (rest room : List ℕ) (n : ℕ) → length rest ≡ n - (cells + 1) → table_size k (rules_in k plan) plan.bits.now ≤ n → room ≡ entries ++ replicate (length rest - get_or written cells 0) 0 → written ++ room ≡ laid k (rules_in k plan) plan.bits.now n
    whole rest room n long fits are_rest =
        let zeros : length rest - get_or written cells 0 ≡ n - table_size k (rules_in k plan) plan.bits.now = omega (arith, last_start) in
        ap₂ (λ (xs ys : List ℕ). xs ++ ys) starts_are (are_rest ∙ ap (λ (z : ℕ). entries ++ replicate z 0) zeros)
        ∙ sym (append_assoc (starts all) entries (replicate (n - table_size k (rules_in k plan) plan.bits.now) 0))
