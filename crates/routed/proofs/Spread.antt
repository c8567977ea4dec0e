-- A span of digits of cells tells whether the ports up to an end, and from an end on, have a cell's values.
use Rattle.std.proofs.Common.{◌≡◌, ℕ, ◌+◌, ◌-◌, ◌*◌, ◌/◌, ◌%◌, ◌^◌, ◌<◌, ◌≤◌, bit_and, Bool, true, false, cond, ◌&&◌, ◌==◌, leb, ltb, min, List, [], ◌∷◌, length, refl, sym, ap, ap₂, ◌∙◌, arith, pow_mono}
use Rattle.std.specs.Bool.{beq}
use native.Mathlib.Nat.{two-pow-succ}
use Rattle.std.specs.Int.{bit_at}
use Rattle.std.specs.Int.Bits.{and_zero_r}
use Rattle.std.proofs.lemmas.Nat.Bits.{bit_at_ones, shr_and_one}
use Rattle.std.proofs.lemmas.Nat.{pow_pos, pow_below, and_block, shr_split, mod_below}
use Rattle.std.proofs.lemmas.Bool.Decides.{nat_tests}
use Rattle.bits.specs.Sixteens.{worth, sixteen}
use Rattle.kinds.specs.Bits.{digit}
use Rattle.kinds.specs.Values.{weigh, valued, Rises, AllBelow}
use Rattle.kinds.specs.Fields.{beyond}
use Rattle.kinds.specs.Spans.{in_span}
use Rattle.kinds.proofs.Exact.{weaker, rises_within, rises_beyond, below_within}
use Rattle.kinds.proofs.Rising.{bits_rise}
use Rattle.bits.specs.Chosen.{IsBits}
use Rattle.routed.specs.declared.ports.PortRange.{PortRange}
use Rattle.routed.specs.Turns.{own, marks, weight, ones, most, either}
use Rattle.routed.proofs.Ones.{weight_few, marks_few, front_low}
use Rattle.routed.proofs.Reaches.{IsAsked, IsExact}
use Rattle.routed.proofs.Mosts.{counts, most_below}

-- the values at one bit more are a sixteen's own where the bit is
own_one : (k b : ℕ) (v : Bool) (asked : List (ℕ × Bool)) → own k ((b, v) ∷ asked) ≡ cond (b / 16 == k) ((b % 16, v) ∷ own k asked) (own k asked)
own_one k b v asked = let place : b / 16 ≡ k → b - 16 * k ≡ b % 16 = λ here. omega arith in grind (arith, nat_tests)

own_rises : (k from to : ℕ) (asked : List (ℕ × Bool)) → to ≤ from - 16 * k → Rises from asked → Rises to (own k asked)
own_rises k from to asked le rises = rises_within 16 to (beyond (16 * k) asked) (weaker to (from - 16 * k) (beyond (16 * k) asked) le (rises_beyond (16 * k) from asked rises))

module _ (k m : ℕ) where
  -- whether a bit is a digit of the sixteen below the place m
  abbrev is_digit : ℕ → Bool
  is_digit b = (b / 16 == k) && ltb (15 - b % 16) m

  -- the digits of a cell at such bits that pass a test, as a number of the cell's digits, and all such digits of cells
  abbrev value : (Bool → Bool) → (cell : ℕ) → List ℕ → ℕ
  value test cell [] = 0
  value test cell (b ∷ bits) = weigh (is_digit b && test (digit cell (length bits))) (length bits) + value test cell bits

  abbrev total : List ℕ → ℕ
  total bits = value (λ v. true) 0 bits

  value_below : (test : Bool → Bool) (cell : ℕ) (bits : List ℕ) → value test cell bits < 2 ^ length bits
  value_below test cell [] = omega arith
  value_below test cell (b ∷ bits) = grind (arith, nat_tests, value_below test cell bits, two-pow-succ (length bits))

  -- and as digits of a port
  behind_few : (v : Bool) (cell b : ℕ) (bits : List ℕ) → Rises (b + 1) (valued bits cell) → b / 16 ≡ k → weight v (own k (valued bits cell)) < 2 ^ (15 - b % 16)
  behind_few v cell b bits rises e =
      weight_few v (15 - b % 16) (own k (valued bits cell))
      (marks_few (15 - b % 16) (b % 16 + 1) (own k (valued bits cell)) (omega arith) (own_rises k (b + 1) (b % 16 + 1) (valued bits cell) (omega arith) rises) (below_within 16 (beyond (16 * k) (valued bits cell))))

  ones_step : (v : Bool) (cell b : ℕ) (bits : List ℕ) → Rises (b + 1) (valued bits cell) → ones m v (own k (valued (b ∷ bits) cell)) ≡ weigh (is_digit b && beq v (digit cell (length bits))) (15 - b % 16) + ones m v (own k (valued bits cell))
  ones_step v cell b bits rises =
      let low = λ (here : b / 16 ≡ k). front_low (beq v (digit cell (length bits))) (15 - b % 16) (weight v (own k (valued bits cell))) (behind_few v cell b bits rises here) m in
      rw (own_one k b (digit cell (length bits)) (valued bits cell)) (grind (arith, nat_tests))

  counts_is : (b end : ℕ) → counts (worth k b) (2 ^ m) end ≡ (is_digit b && leb (worth k b) end)
  counts_is b end = let p = 15 - b % 16 in grind (arith, nat_tests, pow_pos p, pow_below p m, pow_mono {i = m} {j = p})

  -- a digit in front: of the cell's number and the largest, and of the port and its end
  compare : (t d : Bool) (n p u end x y z o : ℕ) → (t ≡ true → (u ≡ 2 ^ p) × (o < 2 ^ p)) → x < 2 ^ n → y < 2 ^ n → leb x y ≡ leb o end → leb x z ≡ leb o (min (end - u) (u - 1)) → leb (weigh (t && d) n + x) (cond (t && leb u end) (2 ^ n + z) y) ≡ leb (weigh (t && d) p + o) end
  compare t d n p u end x y z o here few low same rest = grind (arith, nat_tests)

  -- a cell's number is at most the largest exactly where the least port with its values is at most the end
  up_to : (v : Bool) (cell from end : ℕ) (bits : List ℕ) → Rises from (valued bits cell) → leb (value (beq v) cell bits) (most k (2 ^ m) end bits) ≡ leb (ones m v (own k (valued bits cell))) end
  up_to v cell from end [] rises = grind (arith, nat_tests)
  up_to v cell from end (b ∷ bits) rises =
      let u = worth k b in
      let less = min (end - u) (u - 1) in
      rw (counts_is b end, ones_step v cell b bits rises.1)
      (compare (is_digit b) _ _ (15 - b % 16) u end _ _ _ _ (λ e. let few = behind_few v cell b bits rises.1 in grind (arith, nat_tests)) (value_below (beq v) cell bits) (most_below k (2 ^ m) end bits) (up_to v cell (b + 1) end bits rises.1) (up_to v cell (b + 1) less bits rises.1))

  both_parts : (cell : ℕ) (bits : List ℕ) → value (beq true) cell bits + value (beq false) cell bits ≡ total bits
  both_parts cell [] = refl
  both_parts cell (b ∷ bits) = grind (arith, nat_tests, both_parts cell bits)

  pub most_at_most : (end : ℕ) (bits : List ℕ) → most k (2 ^ m) end bits ≤ total bits
  most_at_most end [] = omega arith
  most_at_most end (b ∷ bits) = let u = worth k b in grind (arith, nat_tests, most_at_most (min (end - u) (u - 1)) bits, most_at_most end bits, counts_is b end)

  -- as many as there are where the end has only ones
  all_ones : (cell : ℕ) (bits : List ℕ) → ((place : ℕ) → place < length bits → bit_at cell place ≡ 1) → value (beq true) cell bits ≡ total bits
  all_ones cell [] only = refl
  all_ones cell (b ∷ bits) only = grind (arith, nat_tests, only (length bits) (omega arith), all_ones cell bits (λ place lt. only place (omega arith)))

  -- a mask of them leaves of a cell's number those that are 1
  and_value : (cell : ℕ) (bits : List ℕ) → bit_and cell (total bits) ≡ value (beq true) cell bits
  and_value cell [] = and_zero_r cell
  and_value cell (b ∷ bits) =
      let n = length bits in
      let s = total bits in
      let block : (w all : ℕ) → all ≡ w * 2 ^ n + s → bit_and cell all ≡ bit_and (cell / 2 ^ n) w * 2 ^ n + bit_and (cell % 2 ^ n) s = λ w all is.
      ap₂ bit_and (sym (shr_split cell n)) is ∙ and_block n (cell / 2 ^ n) w (cell % 2 ^ n) s (mod_below cell (2 ^ n) (pow_pos n)) (value_below (λ v. true) 0 bits) in
      grind (arith, nat_tests, block 0 s (omega arith), block 1 (2 ^ n + s) (omega arith), and_zero_r (cell / 2 ^ n), shr_and_one cell n, and_value cell bits)

  module _ (bits : List ℕ) (set : IsBits bits) where
    abbrev asked : ℕ → List (ℕ × Bool)
    asked cell = own k (valued bits cell)

    pub most_of_all : most k (2 ^ m) (2 ^ m - 1) bits ≡ total bits
    most_of_all =
        let cell = 2 ^ length bits - 1 in
        grind (arith, nat_tests, all_ones cell bits (bit_at_ones (length bits)), up_to true cell 0 (2 ^ m - 1) bits (bits_rise cell bits set), mod_below (weight true (asked cell)) (2 ^ m) (pow_pos m), most_at_most (2 ^ m - 1) bits)

    -- the span has a cell as the ports on both sides have its values
    pub span_tells : (over under digits from to : ℕ) (around : Bool) → digits ≡ most k (2 ^ m) (2 ^ m - 1) bits → from ≡ digits - most k (2 ^ m) over bits → to ≡ most k (2 ^ m) under bits → (cell : ℕ) → in_span (record { digits = digits; from = from; to = to; around = around }) cell ≡ either around (leb (ones m false (asked cell)) over) (leb (ones m true (asked cell)) under)
    span_tells over under digits from to around digits_is from_is to_is cell =
        let here : bit_and cell digits ≡ value (beq true) cell bits = ap (bit_and cell) (digits_is ∙ most_of_all) ∙ and_value cell bits in
        let rises = bits_rise cell bits set in
        grind (arith, nat_tests, most_of_all, both_parts cell bits, most_at_most over bits, up_to false cell 0 over bits rises, up_to true cell 0 under bits rises)

-- a sixteen's own values, whose bits are worth what a set's bits are worth in it
marks_are : (k cell : ℕ) (bits : List ℕ) → marks (own k (valued bits cell)) ≡ sixteen k bits
marks_are k cell [] = refl
marks_are k cell (b ∷ bits) = rw (own_one k b (digit cell (length bits)) (valued bits cell)) (grind (arith, nat_tests, marks_are k cell bits))

pub own_asked : (k cell : ℕ) (bits : List ℕ) {number : ℕ} → IsBits bits → number ≡ sixteen k bits → IsAsked number (own k (valued bits cell))
own_asked k cell bits set is = (own_rises k 0 0 (valued bits cell) (omega arith) (bits_rise cell bits set), below_within 16 (beyond (16 * k) (valued bits cell)), marks_are k cell bits ∙ sym is)

pub own_even : (r : PortRange) (k : ℕ) (bits : List ℕ) {number : ℕ} → IsBits bits → number ≡ sixteen k bits → ((asked : List (ℕ × Bool)) → Rises 0 asked → AllBelow 16 asked → marks asked ≡ number → IsExact r asked) → (cell : ℕ) → IsExact r (own k (valued bits cell))
own_even r k bits set is even cell = let asked = own_asked k cell bits set is in even (own k (valued bits cell)) asked.0 asked.1 asked.2
