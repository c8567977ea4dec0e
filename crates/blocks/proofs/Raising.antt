-- Raising the numbers of some cells, one by one.
use Rattle.std.proofs.Common.{◌≡◌, ℕ, zero, suc, ◌+◌, ◌-◌, ◌^◌, ◌<◌, ◌≤◌, Bool, cond, All, List, [], ◌∷◌, length, get_or, set, sum, filter, Some, None, Option, is_none, sym, refl, ap, ap₂, ◌∙◌, subst, inl, inr, arith}
use Rattle.std.specs.List.{range_with_len}
use Rattle.std.proofs.lemmas.Bool.{lt-ltb, le-ltb, cond_both, cases_eq, cases_lt, true≢false, false≢true}
use Rattle.std.proofs.lemmas.List.{length-set, get_or-set_same, get_or-set_other}
use Rattle.std.proofs.lemmas.List.Sums.{sum_by-set, get_or-le-sum_by}
use Rattle.blocks.specs.Raising.{raised, MayRaise, room_left}

abbrev or_zero : Option ℕ → ℕ
or_zero None = 0
or_zero (Some n) = n

-- one more
abbrev pub one_more : List ℕ → ℕ → List ℕ
one_more numbers cell = set numbers cell (get_or numbers cell 0 + 1)

sum_one_more : (numbers : List ℕ) (cell : ℕ) → cell < length numbers → sum (one_more numbers cell) ≡ sum numbers + 1
sum_one_more numbers cell lt = omega (arith, sum_by-set (λ x. x) numbers cell (get_or numbers cell 0 + 1) 0 lt)

number_le : (numbers : List ℕ) (cell : ℕ) → cell < length numbers → get_or numbers cell 0 ≤ sum numbers
number_le numbers cell lt = get_or-le-sum_by (λ x. x) numbers cell 0 lt

abbrev Inside : ℕ → List ℕ → Type 0
Inside n cells = All (λ cell. cell < n) cells

inside_first : {n cell : ℕ} {left rest : List ℕ} → left ≡ cell ∷ rest → Inside n left → cell < n
inside_first {n = n} {cell = cell} is inside = (subst (Inside n) is inside) 0 cell (omega arith)

inside_rest : {n : ℕ} (cell : ℕ) {left rest : List ℕ} → left ≡ cell ∷ rest → Inside n left → Inside n rest
inside_rest {n = n} cell is inside = λ k d lt. (subst (Inside n) is inside) (suc k) d (omega arith)

pub may_raise : (cells numbers : List ℕ) → Inside (length numbers) cells → sum numbers + length cells < 2 ^ 32 → MayRaise cells numbers
may_raise [] numbers inside small = tt
may_raise (cell ∷ cells) numbers inside small =
    let first = inside_first {left = cell ∷ cells} refl inside in
    let len = length-set numbers cell (get_or numbers cell 0 + 1) in (
      first,
      omega (arith, number_le numbers cell first),
      may_raise cells (one_more numbers cell) (subst (λ (n : ℕ). Inside n cells) (sym len) (inside_rest cell {left = cell ∷ cells} refl inside)) (omega (arith, sum_one_more numbers cell first)),
    )

-- what is left of the room
pub left_none : (room entries : ℕ) → room < entries → None ≡ room_left room entries
left_none room entries lt = ap (λ (b : Bool). cond b None (Some (room - entries))) (sym (lt-ltb room entries lt))

pub left_some : (room entries left : ℕ) → left + entries ≡ room → Some left ≡ room_left room entries
left_some room entries left is = ap Some (omega arith) ∙ ap (λ (b : Bool). cond b None (Some (room - entries))) (sym (le-ltb room entries (omega arith)))

-- what raising the cells that pass a test does, place by place
module _ (test : ℕ → Bool) where
  raised_behind : (n from : ℕ) (xs : List ℕ) (c d : ℕ) → c < from → from + n ≤ length xs → get_or (raised (filter test (range_with_len from n)) xs) c d ≡ get_or xs c d
  raised_behind zero from xs c d lt within = refl
  raised_behind (suc n) from xs c d lt within = cond_both (test from) (from ∷ filter test (range_with_len (from + 1) n)) (filter test (range_with_len (from + 1) n)) (λ cells. get_or (raised cells xs) c d ≡ get_or xs c d)
      (λ _. raised_behind n (from + 1) (one_more xs from) c d (omega arith) (omega (arith, length-set xs from (get_or xs from 0 + 1))) ∙ get_or-set_other xs from c (get_or xs from 0 + 1) d (omega arith))
      (λ _. raised_behind n (from + 1) xs c d (omega arith) (omega arith))

  raised_at : (n from : ℕ) (xs : List ℕ) (c : ℕ) → from ≤ c → c < from + n → from + n ≤ length xs → get_or (raised (filter test (range_with_len from n)) xs) c 0 ≡ get_or xs c 0 + cond (test c) 1 0
  raised_at zero from xs c ge lt within = absurd (omega arith)
  raised_at (suc n) from xs c ge lt within =
      let more = one_more xs from in
      let len = length-set xs from (get_or xs from 0 + 1) in
      elim (cases_eq c from) [
        | inl here ↦ cond_both (test from) (from ∷ filter test (range_with_len (from + 1) n)) (filter test (range_with_len (from + 1) n)) (λ cells. get_or (raised cells xs) c 0 ≡ get_or xs c 0 + cond (test c) 1 0)
            (λ yes. raised_behind n (from + 1) more c 0 (omega arith) (omega (arith, len)) ∙ ap (λ (i : ℕ). get_or more i 0) here ∙ get_or-set_same xs from (get_or xs from 0 + 1) 0 (omega arith) ∙ ap₂ (λ (number add : ℕ). number + add) (ap (λ (i : ℕ). get_or xs i 0) (sym here)) (sym (ap (λ (b : Bool). cond {A = ℕ} b 1 0) (ap test here ∙ yes))))
            (λ no. raised_behind n (from + 1) xs c 0 (omega arith) (omega arith) ∙ omega (arith, ap (λ (b : Bool). cond {A = ℕ} b 1 0) (ap test here ∙ no)))
        | inr other ↦ cond_both (test from) (from ∷ filter test (range_with_len (from + 1) n)) (filter test (range_with_len (from + 1) n)) (λ cells. get_or (raised cells xs) c 0 ≡ get_or xs c 0 + cond (test c) 1 0)
            (λ yes. raised_at n (from + 1) more c (omega arith) (omega arith) (omega (arith, len)) ∙ ap (λ (number : ℕ). number + cond (test c) 1 0) (get_or-set_other xs from c (get_or xs from 0 + 1) 0 other))
            (λ no. raised_at n (from + 1) xs c (omega arith) (omega arith) (omega arith))
      ]

  -- the numbers of all cells that pass, in so many
  pub raised_each : (xs : List ℕ) (n c : ℕ) → n ≡ length xs → c < n → get_or (raised (filter test (range_with_len 0 n)) xs) c 0 ≡ get_or xs c 0 + cond (test c) 1 0
  raised_each xs n c is lt = raised_at n 0 xs c (omega arith) (omega arith) (omega arith)

  inside_cons : (n from i d : ℕ) (rest : List ℕ) → ((j : ℕ) → j < length rest → get_or rest j d < from + suc n) → i < length (from ∷ rest) → get_or (from ∷ rest) i d < from + suc n
  inside_cons n from zero d rest behind lt = omega arith
  inside_cons n from (suc i) d rest behind lt = behind i (omega arith)

  inside_range : (n from : ℕ) → (i : ℕ) (d : ℕ) → i < length (filter test (range_with_len from n)) → get_or (filter test (range_with_len from n)) i d < from + n
  inside_range zero from i d lt = absurd (omega arith)
  inside_range (suc n) from i d lt = cond_both (test from) (from ∷ filter test (range_with_len (from + 1) n)) (filter test (range_with_len (from + 1) n)) (λ cells. i < length cells → get_or cells i d < from + suc n)
      (λ yes. inside_cons n from i d (filter test (range_with_len (from + 1) n)) (λ j in_rest. omega (arith, inside_range n (from + 1) j d in_rest))) (λ no in_rest. omega (arith, inside_range n (from + 1) i d in_rest)) lt

  pub all_inside : (n : ℕ) → Inside n (filter test (range_with_len 0 n))
  all_inside n = λ i d lt. omega (arith, inside_range n 0 i d lt)

pub length_raised : (cells : List ℕ) (xs : List ℕ) → length (raised cells xs) ≡ length xs
length_raised [] xs = refl
length_raised (cell ∷ cells) xs = length_raised cells (one_more xs cell) ∙ length-set xs cell (get_or xs cell 0 + 1)

pub sum_raised : (cells : List ℕ) (xs : List ℕ) → Inside (length xs) cells → sum (raised cells xs) ≡ sum xs + length cells
sum_raised [] xs inside = omega arith
sum_raised (cell ∷ cells) xs inside =
    let first = inside_first {left = cell ∷ cells} refl inside in
    let len = length-set xs cell (get_or xs cell 0 + 1) in
    sum_raised cells (one_more xs cell) (subst (λ (n : ℕ). Inside n cells) (sym len) (inside_rest cell {left = cell ∷ cells} refl inside)) ∙ omega (arith, sum_one_more xs cell first)

-- what is told of the room that is left
pub told_none : (room entries : ℕ) → None ≡ room_left room entries → room < entries
told_none room entries told = elim (cases_lt room entries) [
  | inl lt ↦ lt
  | inr le ↦ absurd (true≢false (ap is_none (told ∙ ap (λ (b : Bool). cond b None (Some (room - entries))) (le-ltb room entries le))))
]

pub told_some : (room entries left : ℕ) → Some left ≡ room_left room entries → left + entries ≡ room
told_some room entries left told = elim (cases_lt room entries) [
  | inl lt ↦ absurd (false≢true (ap is_none (told ∙ ap (λ (b : Bool). cond b None (Some (room - entries))) (lt-ltb room entries lt))))
  | inr le ↦ omega (arith, ap (λ (o : Option ℕ). or_zero o) (told ∙ ap (λ (b : Bool). cond b None (Some (room - entries))) (le-ltb room entries le)))
]
