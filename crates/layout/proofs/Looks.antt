-- Looking into a laid area: the header's block is found there, and its walk answers the lowest line.
use Rattle.std.proofs.Common.{◌≡◌, ℕ, ◌+◌, ◌-◌, ◌^◌, ◌<◌, cond, ltb, List, length, get_or, take, drop, Ok, Err, Option, Result, sym, ap, ◌∙◌, subst, ap₂, arith}
use Rattle.std.proofs.lemmas.Bool.{cond-false, le-ltb}
use Rattle.bits.specs.Chosen.{IsBits}
use Rattle.kinds.specs.Meaning.{Meaning, Lawful}
use Rattle.kinds.specs.Checks.{◌and_then◌}
use Rattle.blocks.specs.Cells.{cell_of}
use Rattle.blocks.specs.Blocks.{block}
use Rattle.blocks.proofs.Cells.{cell_of_below}
use Rattle.layout.specs.Layout.{laid}
use Rattle.layout.specs.LookUp.{block_in, walked, looked_up, FindsLowest}
use Rattle.layout.specs.declared.spoilt.Spoilt.{Spoilt}
use Rattle.layout.specs.declared.spoilt.Spoilt.TheVariants.{Bounds}
use Rattle.layout.proofs.Laid.{start, laid_fits, laid_start, laid_part, laid_bounds}
use Rattle.layout.proofs.Walk.{answered}

module _ {Header Rule Row : Type 0} (k : Meaning Header Rule Row) (rules : List (Option Rule)) (bits area : List ℕ) (h : Header) (is_laid : area ≡ laid k rules bits (length area)) where
  pub block_found : block_in (length bits) area (cell_of k bits h) ≡ Ok (block k rules bits (cell_of k bits h))
  block_found =
      let cell = cell_of k bits h in
      let below : cell < 2 ^ length bits = cell_of_below k bits h in
      let from = get_or area cell 0 in
      let to = get_or area (cell + 1) 0 in
      let base = 2 ^ length bits + 1 in
      let part : List ℕ = take (to - from) (drop (base + from) area) in
      let from_is : from ≡ start k rules bits cell = ap (λ xs. get_or xs cell 0) is_laid ∙ laid_start k rules bits (length area) cell (omega arith) in
      let to_is : to ≡ start k rules bits (cell + 1) = ap (λ xs. get_or xs (cell + 1) 0) is_laid ∙ laid_start k rules bits (length area) (cell + 1) (omega arith) in
      let bounds = laid_bounds k rules bits (length area) cell (laid_fits k rules bits (length area) (ap length (sym is_laid))) below in
      let part_is : part ≡ block k rules bits cell = ap (λ xs. take (to - from) (drop (base + from) xs)) is_laid ∙ ap₂ (λ a b. take (b - a) (drop (base + a) (laid k rules bits (length area)))) from_is to_is ∙ laid_part k rules bits (length area) cell below in
      cond-false (ltb to from) (Err Bounds) (cond (ltb (length area) (base + to)) (Err Bounds) (Ok part)) (le-ltb to from (omega arith))
      ∙ cond-false (ltb (length area) (base + to)) (Err Bounds) (Ok part) (le-ltb (length area) (base + to) (omega arith))
      ∙ ap (λ (es : List ℕ). Ok es) part_is

  -- so what it is found to be is the block, and it is never bad
  pub block_is : (part : List ℕ) → block_in (length bits) area (cell_of k bits h) ≡ Ok part → part ≡ block k rules bits (cell_of k bits h)
  block_is part is = cc block_found

  pub never_bad : (spoilt : Spoilt) → block_in (length bits) area (cell_of k bits h) ≡ Err spoilt → ⊥
  never_bad spoilt is = cc block_found

  pub finds_lowest : Lawful k → IsBits bits → (answer : Result (Option ℕ × ℕ) Spoilt) → answer ≡ looked_up k rules bits h area → FindsLowest k rules bits h answer
  finds_lowest law set answer is =
      let walked_block : FindsLowest k rules bits h (looked_up k rules bits h area) = subst (λ (x : Result (List ℕ) Spoilt). FindsLowest k rules bits h (x and_then walked k rules h 0)) (sym block_found) (answered k law rules bits set h) in
      subst (FindsLowest k rules bits h) (sym is) walked_block
