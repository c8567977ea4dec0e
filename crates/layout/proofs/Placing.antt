-- Writing a line into the blocks of some cells, and of all lines in turn.
use Rattle.std.proofs.Common.{◌≡◌, ℕ, zero, suc, ◌+◌, ◌-◌, ◌^◌, ◌<◌, ◌≤◌, Bool, true, false, cond, List, [], ◌∷◌, ◌++◌, length, get_or, set, map, take, drop, filter, None, sum, Option, sym, refl, ap, ap₂, ◌∙◌, subst, inl, inr, arith}
use Rattle.std.specs.List.{range_with_len, flat_map}
use Rattle.std.proofs.lemmas.Bool.{cond_both, cases_eq, cases_lt, both_ways}
use Rattle.std.proofs.lemmas.List.{ext_get_or, length-append, length-set, length-take-le, length-drop, get_or-take, get_or-drop, get_or-set_same, get_or-set_other, get_or_append_left, get_or-append_right, take-append-drop}
use Rattle.std.proofs.lemmas.List.FromFn.{length-map-range_with_len, get_or-map-range_with_len}
use Rattle.std.proofs.lemmas.List.Sums.{sum_by-cons, sum_by-take-le}
use Rattle.kinds.specs.Meaning.{Meaning}
use Rattle.blocks.specs.Blocks.{admits_line, block, blocks, cells_naming, sizes}
use Rattle.blocks.specs.Raising.{raised}
use Rattle.blocks.proofs.Raising.{raised_each, length_raised}
use Rattle.blocks.proofs.Sizes.{block_below, below_all, below_more, below_size_more, below_size_le, length-blocks, length-sizes, get_or-blocks}
use Rattle.layout.specs.Layout.{starts}
use Rattle.layout.specs.Placing.{placed, FindPlaces}
use Rattle.layout.proofs.Starts.{length_starts, get_or_starts}
use Rattle.layout.proofs.Laid.{start, start_next}

abbrev moved : List ℕ → ℕ → List ℕ
moved cursors cell = set cursors cell (get_or cursors cell 0 + 1)

-- the cells that pass a test, each at its cursor
module _ (test : ℕ → Bool) (line : ℕ) where
  -- a place that no cursor tells stays
  placed_other : (n from p : ℕ) (cursors entries : List ℕ) → ((c : ℕ) → from ≤ c → c < from + n → test c ≡ true → get_or cursors c 0 ≡ p → ⊥) → get_or (placed line (filter test (range_with_len from n)) cursors entries) p 0 ≡ get_or entries p 0
  placed_other zero from p cursors entries none = refl
  placed_other (suc n) from p cursors entries none =
      let rest = filter test (range_with_len (from + 1) n) in
      cond_both (test from) (from ∷ rest) rest (λ cells. get_or (placed line cells cursors entries) p 0 ≡ get_or entries p 0)
      (λ yes.
      placed_other n (from + 1) p (moved cursors from) (set entries (get_or cursors from 0) line)
      (λ c ge lt passes is. none c (omega arith) (omega arith) passes (sym (get_or-set_other cursors from c (get_or cursors from 0 + 1) 0 (λ e. absurd (omega arith))) ∙ is))
      ∙ get_or-set_other entries (get_or cursors from 0) p line 0 (λ e. none from (omega arith) (omega arith) yes (sym e)))
      (λ no. placed_other n (from + 1) p cursors entries (λ c ge lt. none c (omega arith) (omega arith)))

  -- the place that one cursor alone tells holds the line
  placed_here : (n from c : ℕ) (cursors entries : List ℕ) → from ≤ c → c < from + n → test c ≡ true → get_or cursors c 0 < length entries → ((d : ℕ) → from ≤ d → d < from + n → test d ≡ true → get_or cursors d 0 ≡ get_or cursors c 0 → d ≡ c) → get_or (placed line (filter test (range_with_len from n)) cursors entries) (get_or cursors c 0) 0 ≡ line
  placed_here zero from c cursors entries ge lt passes within alone = absurd (omega arith)
  placed_here (suc n) from c cursors entries ge lt passes within alone =
      let rest = filter test (range_with_len (from + 1) n) in
      let p = get_or cursors c 0 in
      let first = get_or cursors from 0 in
      let written = set entries first line in
      cond_both (test from) (from ∷ rest) rest (λ cells. get_or (placed line cells cursors entries) p 0 ≡ line)
      (λ yes. elim (cases_eq from c) [
        | inl here ↦
            placed_other n (from + 1) p (moved cursors from) written
            (λ d ge_d lt_d passes_d is. absurd (omega (arith, alone d (omega arith) (omega arith) passes_d (sym (get_or-set_other cursors from d (first + 1) 0 (λ e. absurd (omega arith))) ∙ is))))
            ∙ ap (λ (q : ℕ). get_or written q 0) (ap (λ (i : ℕ). get_or cursors i 0) (sym here))
            ∙ get_or-set_same entries first line 0 (subst (λ (i : ℕ). get_or cursors i 0 < length entries) (sym here) within)
        | inr other ↦
            let same : (d : ℕ) → from < d → get_or (moved cursors from) d 0 ≡ get_or cursors d 0 = λ d more. get_or-set_other cursors from d (first + 1) 0 (λ e. absurd (omega arith)) in
            let behind : from < c = omega (arith, other) in
            ap (λ (q : ℕ). get_or (placed line rest (moved cursors from) written) q 0) (sym (same c behind))
            ∙ placed_here n (from + 1) c (moved cursors from) written (omega arith) (omega arith) passes (omega (arith, same c behind, length-set entries first line))
            (λ d ge_d lt_d passes_d is. alone d (omega arith) (omega arith) passes_d (sym (same d (omega arith)) ∙ is ∙ same c behind))
      ])
      (λ no. elim (cases_eq from c) [
        | inl here ↦ absurd (both_ways (test from) no (ap test here ∙ passes))
        | inr other ↦ placed_here n (from + 1) c cursors entries (omega (arith, other)) (omega arith) passes within (λ d ge_d lt_d. alone d (omega arith) (omega arith))
      ])

  find_all : (n from places : ℕ) (cursors : List ℕ) → from + n ≤ length cursors → ((c : ℕ) → from ≤ c → c < from + n → test c ≡ true → get_or cursors c 0 < places) → FindPlaces places (filter test (range_with_len from n)) cursors
  find_all zero from places cursors long each = tt
  find_all (suc n) from places cursors long each =
      let rest = filter test (range_with_len (from + 1) n) in
      cond_both (test from) (from ∷ rest) rest (λ cells. FindPlaces places cells cursors)
      (λ yes. (
        omega arith,
        each from (omega arith) (omega arith) yes,
        find_all n (from + 1) places (moved cursors from) (omega (arith, length-set cursors from (get_or cursors from 0 + 1)))
            (λ c ge lt passes. omega (arith, each c (omega arith) (omega arith) passes, get_or-set_other cursors from c (get_or cursors from 0 + 1) 0 (λ e. absurd (omega arith)))),
      ))
      (λ no. find_all n (from + 1) places cursors (omega arith) (λ c ge lt. each c (omega arith) (omega arith)))

pub length_placed : (line : ℕ) (cells cursors entries : List ℕ) → length (placed line cells cursors entries) ≡ length entries
length_placed line [] cursors entries = refl
length_placed line (cell ∷ cells) cursors entries = length_placed line cells (moved cursors cell) (set entries (get_or cursors cell 0) line) ∙ length-set entries (get_or cursors cell 0) line

-- numbers that stand in each block's part are the blocks behind one another
joined_by_parts : (bs : List (List ℕ)) (xs : List ℕ) → length xs ≡ sum (map length bs) → ((c j : ℕ) → c < length bs → j < length (get_or bs c []) → get_or xs (sum (take c (map length bs)) + j) 0 ≡ get_or (get_or bs c []) j 0) → xs ≡ flat_map (λ b. b) bs
joined_by_parts [] [] long each = refl
joined_by_parts [] (x ∷ xs) long each = absurd (omega arith)
joined_by_parts (b ∷ bs) xs long each =
    let n = length b in
    let whole = long ∙ sum_by-cons (λ x. x) n (map length bs) in
    let front : take n xs ≡ b = ext_get_or 0 (take n xs) b (length-take-le n xs (omega arith))
    (λ j lt. let below : j < n = omega (arith, length-take-le n xs (omega arith)) in get_or-take n xs j 0 below ∙ ap (λ (p : ℕ). get_or xs p 0) (omega arith) ∙ each 0 j (omega arith) below) in
    let back : drop n xs ≡ flat_map (λ b'. b') bs = joined_by_parts bs (drop n xs) (omega (arith, length-drop n xs))
    (λ c j in_bs in_b. get_or-drop n xs (sum (take c (map length bs)) + j) 0 ∙ ap (λ (p : ℕ). get_or xs p 0) (omega (arith, sum_by-cons (λ x. x) n (take c (map length bs)))) ∙ each (suc c) j (omega arith) in_b) in
    sym (take-append-drop n xs) ∙ ap₂ (λ (ys zs : List ℕ). ys ++ zs) front back

-- all lines of a table, in turn
module _ {Header Rule Row : Type 0} (k : Meaning Header Rule Row) (rules : List (Option Rule)) (bits : List ℕ) where
  abbrev first : ℕ → ℕ
  first = start k rules bits

  abbrev done : ℕ → ℕ → ℕ
  done c line = length (block_below k rules bits c line)

  -- the cursors when the lines below one are written
  abbrev pub cursors_at : ℕ → List ℕ
  cursors_at line = map (λ c. first c + done c line) (range_with_len 0 (2 ^ length bits))

  pub length-cursors_at : (line : ℕ) → length (cursors_at line) ≡ 2 ^ length bits
  length-cursors_at line = length-map-range_with_len (λ c. first c + done c line) 0 (2 ^ length bits)

  get_or-cursors_at : (line c : ℕ) → c < 2 ^ length bits → get_or (cursors_at line) c 0 ≡ first c + done c line
  get_or-cursors_at line c lt = get_or-map-range_with_len (λ c. first c + done c line) 0 (2 ^ length bits) c c 0 lt (omega arith)

  pub cursors_first : (xs : List ℕ) → xs ≡ take (2 ^ length bits) (starts (sizes k rules bits)) → xs ≡ cursors_at 0
  cursors_first xs are =
      let ss = sizes k rules bits in
      let front = take (2 ^ length bits) (starts ss) in
      let long : length front ≡ 2 ^ length bits = length-take-le (2 ^ length bits) (starts ss) (omega (arith, length_starts ss, length-sizes k rules bits)) in
      are ∙ ext_get_or 0 front (cursors_at 0) (long ∙ sym (length-cursors_at 0)) (λ c lt.
      let below : c < 2 ^ length bits = omega (arith, long) in
      get_or-take (2 ^ length bits) (starts ss) c 0 below ∙ get_or_starts ss c (omega (arith, length-sizes k rules bits)) ∙ sym (get_or-cursors_at 0 c below ∙ omega arith))

  start_le : (n a b : ℕ) → b ≡ a + n → b ≤ 2 ^ length bits → first a ≤ first b
  start_le zero a b is lt = let same : a ≡ b = omega arith in omega (arith, ap first same)
  start_le (suc n) a b is lt = omega (arith, start_le n (a + 1) b (omega arith) lt, start_next k rules bits a (omega arith))

  start_before : (a b : ℕ) → a < b → b ≤ 2 ^ length bits → first a + length (block k rules bits a) ≤ first b
  start_before a b lt in_cells = omega (arith, start_le (b - (a + 1)) (a + 1) b (omega arith) in_cells, start_next k rules bits a (omega arith))

  start_before_end : (c : ℕ) → c < 2 ^ length bits → first c + length (block k rules bits c) ≤ sum (sizes k rules bits)
  start_before_end c lt = omega (arith, start_next k rules bits c lt, sum_by-take-le (λ x. x) (sizes k rules bits) (c + 1))

  module _ (line : ℕ) (got : line < length rules) where
    abbrev names : ℕ → Bool
    names c = admits_line k (get_or rules line None) bits c

    -- an entry of a line that a block names has a place in the block
    own_place : (c : ℕ) → names c ≡ true → done c line < length (block k rules bits c)
    own_place c named_here = omega (arith, below_size_more k rules bits c line got, ap (λ (b : Bool). cond {A = ℕ} b 1 0) named_here, below_size_le k rules bits c (line + 1))

    -- places of different blocks are different
    apart : (c d i j : ℕ) → c < 2 ^ length bits → d < 2 ^ length bits → i < length (block k rules bits c) → j < length (block k rules bits d) → first c + i ≡ first d + j → c ≡ d
    apart c d i j in_c in_d in_block_c in_block_d is = elim (cases_eq c d) [
      | inl e ↦ e
      | inr ne ↦ elim (cases_lt c d) [
        | inl before ↦ absurd (omega (arith, start_before c d before (omega arith)))
        | inr behind ↦ absurd (omega (arith, start_before d c (omega (arith, ne)) (omega arith)))
      ]
    ]

    pub cursors_more : {cursors cells : List ℕ} → cursors ≡ cursors_at line → cells ≡ cells_naming k rules bits line → raised cells cursors ≡ cursors_at (line + 1)
    cursors_more so_far named =
        let long = length_raised (cells_naming k rules bits line) (cursors_at line) in
        ap₂ raised named so_far
        ∙ ext_get_or 0 (raised (cells_naming k rules bits line) (cursors_at line)) (cursors_at (line + 1)) (long ∙ length-cursors_at line ∙ sym (length-cursors_at (line + 1))) (λ c lt.
        let below : c < 2 ^ length bits = omega (arith, long, length-cursors_at line) in
        raised_each names (cursors_at line) (2 ^ length bits) c (sym (length-cursors_at line)) below
        ∙ omega (arith, get_or-cursors_at line c below, get_or-cursors_at (line + 1) c below, below_size_more k rules bits c line got))

    pub places_more : {cursors cells : List ℕ} (entries : List ℕ) → cursors ≡ cursors_at line → cells ≡ cells_naming k rules bits line → length entries ≡ sum (sizes k rules bits) → FindPlaces (length entries) cells cursors
    places_more {cells = cells} entries so_far named long =
        let all = find_all names line (2 ^ length bits) 0 (length entries) (cursors_at line) (omega (arith, length-cursors_at line))
        (λ c ge lt named_here. omega (arith, long, get_or-cursors_at line c (omega arith), own_place c named_here, start_before_end c (omega arith))) in
        subst (λ (cursors : List ℕ). FindPlaces (length entries) cells cursors) (sym so_far) (subst (λ (cs : List ℕ). FindPlaces (length entries) cs (cursors_at line)) (sym named) all)

  -- the entries of the lines below one stand in their blocks' parts
  abbrev pub Written : ℕ → List ℕ → Type 0
  Written line entries = (c j : ℕ) → c < 2 ^ length bits → j < done c line → get_or entries (first c + j) 0 ≡ get_or (block_below k rules bits c line) j 0

  module _ (line : ℕ) (got : line < length rules) (entries : List ℕ) (long : length entries ≡ sum (sizes k rules bits)) (so_far : Written line entries) where
    abbrev after : List ℕ
    after = placed line (cells_naming k rules bits line) (cursors_at line) entries

    -- an entry that stands stays
    stays : (c j : ℕ) → c < 2 ^ length bits → j < done c line → get_or after (first c + j) 0 ≡ get_or entries (first c + j) 0
    stays c j in_c lt =
        placed_other (names line got) line (2 ^ length bits) 0 (first c + j) (cursors_at line) entries (λ d ge in_range named_here is.
        let in_d : d < 2 ^ length bits = omega arith in
        let at = get_or-cursors_at line d in_d in
        let same = apart line got d c (done d line) j in_d in_c (own_place line got d named_here) (omega (arith, below_size_le k rules bits c line)) (sym at ∙ is) in
        omega (arith, at, is, ap (λ (e : ℕ). first e + done e line) same))

    -- the line's entry goes behind those of its block
    new : (c : ℕ) → c < 2 ^ length bits → names line got c ≡ true → get_or after (first c + done c line) 0 ≡ line
    new c in_c named_here =
        let at = get_or-cursors_at line c in_c in
        ap (λ (p : ℕ). get_or after p 0) (sym at)
        ∙ placed_here (names line got) line (2 ^ length bits) 0 c (cursors_at line) entries (omega arith) (omega arith) named_here
        (omega (arith, at, long, own_place line got c named_here, start_before_end c in_c))
        (λ d ge in_range d_named is.
        let in_d : d < 2 ^ length bits = omega arith in
        apart line got d c (done d line) (done c line) in_d in_c (own_place line got d d_named) (own_place line got c named_here) (sym (get_or-cursors_at line d in_d) ∙ is ∙ at))

    last : (c j : ℕ) (t : Bool) → names line got c ≡ t → c < 2 ^ length bits → done c line ≤ j → j < done c line + length (cond t (line ∷ []) []) → get_or after (first c + j) 0 ≡ get_or (block_below k rules bits c line ++ cond t (line ∷ []) []) j 0
    last c j true is in_c ge lt =
        let below = block_below k rules bits c line in
        let here : j ≡ done c line = omega arith in
        let front : j - length below ≡ 0 = omega arith in
        ap (λ (i : ℕ). get_or after (first c + i) 0) here ∙ new c in_c is ∙ sym (get_or-append_right below (line ∷ []) (length below) j 0 refl ge ∙ ap (λ (i : ℕ). get_or (line ∷ []) i 0) front)
    last c j false is in_c ge lt = absurd (omega arith)

    by_test : (c j : ℕ) (t : Bool) → names line got c ≡ t → c < 2 ^ length bits → j < done c (line + 1) → get_or after (first c + j) 0 ≡ get_or (block_below k rules bits c (line + 1)) j 0
    by_test c j t is in_c lt =
        let below = block_below k rules bits c line in
        let more = below_more k rules bits c line t got is in
        elim (cases_lt j (done c line)) [
          | inl old ↦ stays c j in_c old ∙ so_far c j in_c old ∙ sym (ap (λ (es : List ℕ). get_or es j 0) more ∙ get_or_append_left below (cond t (line ∷ []) []) 0 j old)
          | inr behind ↦ last c j t is in_c behind (omega (arith, ap length more, length-append below (cond t (line ∷ []) []))) ∙ sym (ap (λ (es : List ℕ). get_or es j 0) more)
        ]

    written_after : Written (line + 1) after
    written_after c j in_c lt = by_test c j (names line got c) refl in_c lt

  pub written_more : (line : ℕ) → line < length rules → {cursors cells : List ℕ} (entries next : List ℕ) → cursors ≡ cursors_at line → cells ≡ cells_naming k rules bits line → length entries ≡ sum (sizes k rules bits) → Written line entries → next ≡ placed line cells cursors entries → Written (line + 1) next
  written_more line got entries next so_far named long written is =
      subst (Written (line + 1)) (sym (is ∙ ap₂ (λ (cells cursors : List ℕ). placed line cells cursors entries) named so_far)) (written_after line got entries long written)

  pub none_written : (entries : List ℕ) → Written 0 entries
  none_written entries c j in_c lt = absurd (omega arith)

  pub all_written : (line : ℕ) (entries : List ℕ) → length rules ≤ line → length entries ≡ sum (sizes k rules bits) → Written line entries → entries ≡ flat_map (λ b. b) (blocks k rules bits)
  all_written line entries le long written =
      joined_by_parts (blocks k rules bits) entries long (λ c j in_bs in_b.
      let in_c : c < 2 ^ length bits = omega (arith, length-blocks k rules bits) in
      let is = get_or-blocks k rules bits c in_c in
      let all = below_all k rules bits c line le in
      written c j in_c (omega (arith, ap length is, ap length all)) ∙ ap (λ (es : List ℕ). get_or es j 0) (all ∙ sym is))
