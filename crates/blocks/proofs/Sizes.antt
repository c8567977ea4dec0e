-- Blocks, line by line, and all sizes, cell by cell.
use Rattle.std.proofs.Common.{◌≡◌, ℕ, zero, suc, ◌+◌, ◌*◌, ◌^◌, ◌<◌, ◌≤◌, Bool, cond, List, [], ◌∷◌, ◌++◌, map, length, get_or, take, replicate, None, sum, filter, All, Option, sym, refl, ap, ◌∙◌, subst, mul-le-mul, arith}
use Rattle.std.specs.List.{range_with_len}
use Rattle.std.proofs.lemmas.List.{length-map, get_or-map, take_all, ext_get_or, length-replicate, get_or-replicate}
use Rattle.std.proofs.lemmas.List.FromFn.{length-range_with_len, get_or-range_with_len, length-map-range_with_len, get_or-map-range_with_len}
use Rattle.std.proofs.lemmas.List.Elements.{filter_more}
use Rattle.std.proofs.lemmas.List.Filters.{length-filter_more}
use Rattle.std.proofs.lemmas.Simd.{map-map}
use Rattle.std.proofs.ByRecursion.{All-from_get_or, sum_by_le}
use Rattle.std.proofs.lemmas.List.Sums.{length-filter, count_by-le-length, sum_by-take-le, sum-map, sum_by-cons, sum_by-le-sum_by}
use Rattle.kinds.specs.Meaning.{Meaning}
use Rattle.blocks.specs.Blocks.{admits_line, block, blocks, cells_naming, sizes}
use Rattle.blocks.specs.Raising.{raised}
use Rattle.blocks.proofs.Raising.{raised_each, all_inside, length_raised, sum_raised}

module _ {Header Rule Row : Type 0} (k : Meaning Header Rule Row) where
  module _ (rules : List (Option Rule)) (bits : List ℕ) (cell : ℕ) where
    abbrev keeps : ℕ → Bool
    keeps line = admits_line k (get_or rules line None) bits cell

    -- the part of the block that names lines below one
    abbrev pub block_below : ℕ → List ℕ
    block_below line = filter keeps (take line (range_with_len 0 (length rules)))

    pub below_more : (i : ℕ) (t : Bool) → i < length rules → keeps i ≡ t → block_below (i + 1) ≡ block_below i ++ cond t (i ∷ []) []
    below_more i t lt e =
        let here : get_or (range_with_len 0 (length rules)) i 0 ≡ i = omega (arith, get_or-range_with_len 0 (length rules) i 0 lt) in
        filter_more keeps (range_with_len 0 (length rules)) i 0 (omega (arith, length-range_with_len 0 (length rules)))
        ∙ ap (λ (j : ℕ). block_below i ++ cond (keeps j) (j ∷ []) []) here
        ∙ ap (λ (b : Bool). block_below i ++ cond b (i ∷ []) []) e

    pub below_all : (i : ℕ) → length rules ≤ i → block_below i ≡ block k rules bits cell
    below_all i le = ap (filter keeps) (take_all i (range_with_len 0 (length rules)) (omega (arith, length-range_with_len 0 (length rules))))

    pub below_size_more : (i : ℕ) → i < length rules → length (block_below (i + 1)) ≡ length (block_below i) + cond (keeps i) 1 0
    below_size_more i lt =
        let lines = range_with_len 0 (length rules) in
        let here : get_or lines i 0 ≡ i = omega (arith, get_or-range_with_len 0 (length rules) i 0 lt) in
        length-filter_more keeps lines i 0 (omega (arith, length-range_with_len 0 (length rules))) ∙ ap (λ (j : ℕ). length (block_below i) + cond {A = ℕ} (keeps j) 1 0) here

    pub below_size_le : (i : ℕ) → length (block_below i) ≤ length (block k rules bits cell)
    below_size_le i =
        let lines = range_with_len 0 (length rules) in
        omega (arith, length-filter keeps (take i lines), length-filter keeps lines, sum_by-take-le (λ line. cond {A = ℕ} (keeps line) 1 0) lines i)

module _ {Header Rule Row : Type 0} (k : Meaning Header Rule Row) (rules : List (Option Rule)) (bits : List ℕ) where
  pub length-blocks : length (blocks k rules bits) ≡ 2 ^ length bits
  length-blocks = length-map-range_with_len (block k rules bits) 0 (2 ^ length bits)

  pub length-sizes : length (sizes k rules bits) ≡ 2 ^ length bits
  length-sizes = length-map (blocks k rules bits) length ∙ length-blocks

  pub get_or-blocks : (c : ℕ) → c < 2 ^ length bits → get_or (blocks k rules bits) c [] ≡ block k rules bits c
  get_or-blocks c h = get_or-map-range_with_len (block k rules bits) 0 (2 ^ length bits) c c [] h (omega arith)

  pub get_or-sizes : (c : ℕ) → c < 2 ^ length bits → get_or (sizes k rules bits) c 0 ≡ length (block k rules bits c)
  get_or-sizes c h = get_or-map length (blocks k rules bits) c [] 0 (omega (arith, length-blocks)) ∙ ap length (get_or-blocks c h)

  pub size_few : (c : ℕ) → length (block k rules bits c) ≤ length rules
  size_few c =
      let keeps = λ (line : ℕ). admits_line k (get_or rules line None) bits c in
      omega (arith, length-filter keeps (range_with_len 0 (length rules)), count_by-le-length keeps (range_with_len 0 (length rules)), length-range_with_len 0 (length rules))

  -- all entries together: at most every line in every cell
  pub entries_few : sum (sizes k rules bits) ≤ 2 ^ length bits * length rules
  entries_few =
      let ss = sizes k rules bits in
      let each = All-from_get_or (λ size. size ≤ length rules) ss 0 (λ c lt. omega (arith, get_or-sizes c (omega (arith, length-sizes)), size_few c)) in
      subst (λ (n : ℕ). sum ss ≤ n * length rules) length-sizes (sum_by_le (λ x. x) (length rules) ss each)

  pub entries_bound : 2 ^ length bits ≤ 4096 → length rules ≤ 16384 → sum (sizes k rules bits) ≤ 2 ^ 26
  entries_bound few lines = let most : 2 ^ length bits * length rules ≤ 4096 * 16384 = mul-le-mul few lines in omega (arith, entries_few)

  -- the sizes of blocks that name the lines below one alone
  abbrev pub sizes_below : ℕ → List ℕ
  sizes_below line = map (λ c. length (block_below k rules bits c line)) (range_with_len 0 (2 ^ length bits))

  pub length-sizes_below : (line : ℕ) → length (sizes_below line) ≡ 2 ^ length bits
  length-sizes_below line = length-map-range_with_len (λ c. length (block_below k rules bits c line)) 0 (2 ^ length bits)

  get_or-sizes_below : (line c : ℕ) → c < 2 ^ length bits → get_or (sizes_below line) c 0 ≡ length (block_below k rules bits c line)
  get_or-sizes_below line c lt = get_or-map-range_with_len (λ c. length (block_below k rules bits c line)) 0 (2 ^ length bits) c c 0 lt (omega arith)

  no_sum : (n : ℕ) → sum (replicate n 0) ≡ 0
  no_sum zero = refl
  no_sum (suc n) = omega (arith, no_sum n, sum_by-cons (λ x. x) 0 (replicate n 0))

  pub sum_none_below : (xs : List ℕ) → xs ≡ replicate (2 ^ length bits) 0 → sum xs ≡ 0
  sum_none_below xs are = ap sum are ∙ no_sum (2 ^ length bits)

  pub none_below : (xs : List ℕ) → xs ≡ replicate (2 ^ length bits) 0 → xs ≡ sizes_below 0
  none_below xs are = are ∙ ext_get_or 0 (replicate (2 ^ length bits) 0) (sizes_below 0) (length-replicate (2 ^ length bits) 0 ∙ sym (length-sizes_below 0))
      (λ c lt. omega (arith, get_or-sizes_below 0 c (omega (arith, length-replicate {A = ℕ} (2 ^ length bits) 0)), get_or-replicate {A = ℕ} (2 ^ length bits) c 0 0 (omega (arith, length-replicate {A = ℕ} (2 ^ length bits) 0))))

  -- the cells whose blocks name a line
  pub line_raised : (line : ℕ) → line < length rules → raised (cells_naming k rules bits line) (sizes_below line) ≡ sizes_below (line + 1)
  line_raised line lt =
      let test = λ (c : ℕ). admits_line k (get_or rules line None) bits c in
      let long = length_raised (cells_naming k rules bits line) (sizes_below line) in
      ext_get_or 0 (raised (cells_naming k rules bits line) (sizes_below line)) (sizes_below (line + 1)) (long ∙ length-sizes_below line ∙ sym (length-sizes_below (line + 1)))
      (λ c in_cells.
      let below : c < 2 ^ length bits = omega (arith, long, length-sizes_below line) in
      raised_each test (sizes_below line) (2 ^ length bits) c (sym (length-sizes_below line)) below
      ∙ ap (λ (n : ℕ). n + cond (test c) 1 0) (get_or-sizes_below line c below)
      ∙ sym (below_size_more k rules bits c line lt)
      ∙ sym (get_or-sizes_below (line + 1) c below))

  pub sum_more : (line : ℕ) → line < length rules → sum (sizes_below (line + 1)) ≡ sum (sizes_below line) + length (cells_naming k rules bits line)
  sum_more line lt =
      let test = λ (c : ℕ). admits_line k (get_or rules line None) bits c in
      ap sum (sym (line_raised line lt)) ∙ sum_raised (cells_naming k rules bits line) (sizes_below line) (subst (λ (n : ℕ). All (λ c. c < n) (cells_naming k rules bits line)) (sym (length-sizes_below line)) (all_inside test (2 ^ length bits)))

  pub sum_below_le : (line : ℕ) → sum (sizes_below line) ≤ sum (sizes k rules bits)
  sum_below_le line =
      let cells = range_with_len 0 (2 ^ length bits) in
      let some = λ (c : ℕ). length (block_below k rules bits c line) in
      let all = λ (c : ℕ). length (block k rules bits c) in
      omega (arith, sum-map some cells, sum-map all cells, sum_by-le-sum_by some all cells (λ c. below_size_le k rules bits c line), ap sum (map-map length (block k rules bits) cells))

  pub all_below : (line : ℕ) → length rules ≤ line → sizes_below line ≡ sizes k rules bits
  all_below line le =
      ext_get_or 0 (sizes_below line) (sizes k rules bits) (length-sizes_below line ∙ sym length-sizes)
      (λ c in_cells. let below : c < 2 ^ length bits = omega (arith, length-sizes_below line) in
      get_or-sizes_below line c below ∙ ap length (below_all k rules bits c line le) ∙ sym (get_or-sizes c below))
