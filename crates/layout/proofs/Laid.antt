-- What stands where in a laid area that the table fits.
use Rattle.std.proofs.Common.{◌≡◌, ℕ, ◌+◌, ◌-◌, ◌^◌, ◌<◌, ◌≤◌, List, [], ◌++◌, length, get_or, take, drop, replicate, sum, Option, sym, ap, ◌∙◌, arith}
use Rattle.std.specs.List.{flat_map}
use Rattle.std.proofs.lemmas.List.{length-append, length-replicate, append_assoc, get_or_append_left}
use Rattle.std.proofs.lemmas.List.Sums.{sum_by_more, sum_by-take-le}
use Rattle.kinds.specs.Meaning.{Meaning}
use Rattle.blocks.specs.Blocks.{block, blocks, sizes, table_size, Fits}
use Rattle.blocks.proofs.Sizes.{length-blocks, length-sizes, get_or-blocks, get_or-sizes}
use Rattle.layout.specs.Layout.{starts, laid}
use Rattle.layout.proofs.Starts.{length_starts, get_or_starts}
use Rattle.layout.proofs.Joined.{length_joined, drop_past, part_joined}

module _ {Header Rule Row : Type 0} (k : Meaning Header Rule Row) (rules : List (Option Rule)) (bits : List ℕ) where
  -- where the block of a cell starts, among the entries
  abbrev pub start : ℕ → ℕ
  start c = sum (take c (sizes k rules bits))

  pub start_next : (c : ℕ) → c < 2 ^ length bits → start (c + 1) ≡ start c + length (block k rules bits c)
  start_next c h = sum_by_more (λ x. x) (sizes k rules bits) c 0 (omega (arith, length-sizes k rules bits)) ∙ ap (λ n. start c + n) (get_or-sizes k rules bits c h)

  pub start_within : (c : ℕ) → start c ≤ sum (sizes k rules bits)
  start_within c = sum_by-take-le (λ x. x) (sizes k rules bits) c

  -- an area is as long as its table, and longer by the zeros behind it
  length_all : (len : ℕ) → length (laid k rules bits len) ≡ table_size k rules bits + (len - table_size k rules bits)
  length_all len =
      let front = starts (sizes k rules bits) in
      let entries = flat_map (λ b. b) (blocks k rules bits) in
      omega (arith, length-append (front ++ entries) (replicate (len - table_size k rules bits) 0), length-append front entries, length_starts (sizes k rules bits), length-sizes k rules bits, length_joined (blocks k rules bits), length-replicate {A = ℕ} (len - table_size k rules bits) 0)

  pub laid_fits : (len : ℕ) → length (laid k rules bits len) ≡ len → Fits k rules bits len
  laid_fits len e = omega (arith, length_all len)

  pub length_laid : (len : ℕ) → Fits k rules bits len → length (laid k rules bits len) ≡ len
  length_laid len fits = omega (arith, length_all len)

  -- the number at place c, which is where its block starts
  pub laid_start : (len c : ℕ) → c ≤ 2 ^ length bits → get_or (laid k rules bits len) c 0 ≡ start c
  laid_start len c h =
      let ss = sizes k rules bits in
      let front = starts ss in
      let entries = flat_map (λ b. b) (blocks k rules bits) in
      let count : length front ≡ 2 ^ length bits + 1 = length_starts ss ∙ ap (λ n. n + 1) (length-sizes k rules bits) in
      get_or_append_left (front ++ entries) (replicate (len - table_size k rules bits) 0) 0 c (omega (arith, length-append front entries))
      ∙ get_or_append_left front entries 0 c (omega arith)
      ∙ get_or_starts ss c (omega (arith, length-sizes k rules bits))
      ∙ omega arith

  -- the entries between two starts are the cell's block
  pub laid_part : (len c : ℕ) → c < 2 ^ length bits → take (start (c + 1) - start c) (drop (2 ^ length bits + 1 + start c) (laid k rules bits len)) ≡ block k rules bits c
  laid_part len c h =
      let ss = sizes k rules bits in
      let bs = blocks k rules bits in
      let front = starts ss in
      let rest : List ℕ = replicate (len - table_size k rules bits) 0 in
      let size = length (get_or bs c []) in
      let in' : c < length bs = omega (arith, length-blocks k rules bits) in
      let wide : start (c + 1) - start c ≡ size = omega (arith, start_next c h, ap length (get_or-blocks k rules bits c h)) in
      let here : 2 ^ length bits + 1 + start c ≡ length front + start c = ap (λ n. n + start c) (sym (length_starts ss ∙ ap (λ n. n + 1) (length-sizes k rules bits))) in
      ap (λ n. take n (drop (2 ^ length bits + 1 + start c) (laid k rules bits len))) wide
      ∙ ap (λ xs. take size (drop (2 ^ length bits + 1 + start c) xs)) (append_assoc front (flat_map (λ b. b) bs) rest)
      ∙ ap (take size) (drop_past front (flat_map (λ b. b) bs ++ rest) (start c) (2 ^ length bits + 1 + start c) here)
      ∙ part_joined bs c rest in'
      ∙ get_or-blocks k rules bits c h

  pub laid_bounds : (len c : ℕ) → Fits k rules bits len → c < 2 ^ length bits → (start c ≤ start (c + 1)) × (2 ^ length bits + 1 + start (c + 1) ≤ len)
  laid_bounds len c fits h = (omega (arith, start_next c h), omega (arith, start_within (c + 1)))
