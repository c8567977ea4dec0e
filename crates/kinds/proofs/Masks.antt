-- The numbers that are admitted bit by bit: digit by digit they lie between the least and the largest.
use Rattle.std.proofs.Common.{◌≡◌, ℕ, suc, ◌+◌, ◌-◌, ◌*◌, ◌/◌, ◌%◌, ◌^◌, ◌<◌, ◌≤◌, bit_and, bit_or, Bool, true, false, not, ◌&&◌, ◌||◌, ◌==◌, List, [], ◌∷◌, map, length, filter, sym, ap, ap₂, min, ◌∙◌, Some, None, Option, subst, arith}
use mir.Val.{bool_byte}
use Rattle.std.specs.List.{range_with_len}
use Rattle.std.specs.Int.Bits.{or_add_and}
use Rattle.std.specs.Int.{bit_at}
use Rattle.std.proofs.lemmas.Nat.{and_le_l, and_le_r, and_comm, and_assoc, and_block, and-not, and_or_self, or_disjoint, or_lt, shr_high, shr_split, shr_below, mod_below, pow_pos}
use Rattle.std.proofs.lemmas.Nat.Bits.{bit_at-zero, bit_at_and, bit_at_or, same_from_bits}
use Rattle.std.proofs.lemmas.Bool.{and_parts, and_left, eqb-true, ne_eqb, false_from_ne_true}
use Rattle.std.proofs.lemmas.Bool.Decides.{nat_tests}
use Rattle.std.proofs.lemmas.List.Elements.{filter_agree}
use Rattle.kinds.specs.Bits.{digit}
use Rattle.kinds.specs.Values.{weigh, valued, each, cells_of}
use Rattle.kinds.specs.Masks.{least, largest}
use Rattle.kinds.specs.Parts.{parts_left}
use Rattle.kinds.proofs.Numbers.{weighed, is_byte, regroup, digit_here, number_below}
use Rattle.kinds.proofs.Parts.{none_shared}
use Rattle.kinds.proofs.Ranges.{passed, trimmed, same, shift, moved}

-- whether each digit that a number has is one of another's
abbrev inside : ℕ → ℕ → Bool
inside x y = bit_and x y == x

-- with a digit more in front of each
inside_block : (n a b x y : ℕ) → x < 2 ^ n → y < 2 ^ n → inside (a * 2 ^ n + x) (b * 2 ^ n + y) ≡ (inside a b && inside x y)
inside_block n a b x y few many =
    let both = and_block n a b x y few many in
    let front = shr_high (bit_and a b) n (bit_and x y) (omega (arith, and_le_l x y)) in
    let own = shr_high a n x few in
    grind (arith, nat_tests)

inside_more : (n x y : ℕ) (v w : Bool) → x < 2 ^ n → y < 2 ^ n → inside (weigh v n + x) (weigh w n + y) ≡ ((not v || w) && inside x y)
inside_more n x y true true few many = ap₂ inside (omega arith) (omega arith) ∙ inside_block n 1 1 x y few many
inside_more n x y true false few many = ap₂ inside (omega arith) (omega arith) ∙ inside_block n 1 0 x y few many
inside_more n x y false true few many = ap₂ inside (omega arith) (omega arith) ∙ inside_block n 0 1 x y few many
inside_more n x y false false few many = ap₂ inside (omega arith) (omega arith) ∙ inside_block n 0 0 x y few many

-- one bit and those behind it
shuffled : (answer : Bool → Bool) (v p q : Bool) → (answer v && (p && q)) ≡ (((not (not (answer false)) || v) && p) && ((not v || answer true) && q))
shuffled answer true p q = grind (arith, nat_tests)
shuffled answer false p q = grind (arith, nat_tests)

module _ (alone : ℕ → Bool → Bool) where
  abbrev between : List ℕ → ℕ → Bool
  between bits x = inside (least alone bits) x && inside x (largest alone bits)

  each_between : (bits : List ℕ) (hi x : ℕ) → x < 2 ^ length bits → each alone (valued bits (hi * 2 ^ length bits + x)) ≡ between bits x
  each_between [] hi x lt = let none : 0 ≡ x = omega arith in ap (between []) none
  each_between (b ∷ bs) hi x lt =
      let n = length bs in
      let v = x / 2 ^ n == 1 in
      let y = x % 2 ^ n in
      let few : y < 2 ^ n = mod_below x (2 ^ n) (pow_pos n) in
      let front = is_byte (x / 2 ^ n) (shr_below x 1 n (subst (λ (k : ℕ). x < 2 ^ k) (omega arith) lt)) in
      let whole : weigh v n + y ≡ x = omega (arith, weighed v n, ap (λ (d : ℕ). d * 2 ^ n) front, shr_split x n) in
      ap (λ (i : ℕ). alone b (digit i n) && each alone (valued bs i)) (ap (λ (t : ℕ). hi * 2 ^ suc n + t) (sym whole) ∙ regroup v hi n y)
      ∙ ap₂ (λ (d rest : Bool). alone b d && rest) (digit_here hi n y v few) (each_between bs (hi * 2 + bool_byte v) y few)
      ∙ shuffled (alone b) v (inside (least alone bs) y) (inside y (largest alone bs))
      ∙ sym (ap₂ (λ (s t : Bool). s && t) (inside_more n (least alone bs) y (not (alone b false)) v (number_below _ bs) few) (inside_more n y (largest alone bs) v (alone b true) few (number_below _ bs)))
      ∙ ap (between (b ∷ bs)) whole

-- what lies between two numbers digit by digit is the first and some of the digits that the second has more
module _ (w low high : ℕ) (few : high < 2 ^ w) (own : bit_and low high ≡ low) where
  abbrev free : ℕ
  free = high - low

  abbrev rest : ℕ
  rest = 2 ^ w - 1 - low

  small : low < 2 ^ w
  small = omega (arith, own, and_le_r low high)

  free_is : free ≡ bit_and rest high
  free_is = omega (arith, and-not w low high small few, own)

  to_part : (x : ℕ) → bit_and low (low + x) ≡ low → bit_and (low + x) high ≡ low + x → bit_and x free ≡ x
  to_part x above below =
      let is : x ≡ bit_and rest (low + x) = omega (arith, and-not w low (low + x) small (omega (arith, below, and_le_r (low + x) high)), above) in
      same_from_bits (bit_and x free) x (λ i.
      let bit = λ (m n : ℕ) (e : m ≡ n). ap (λ (t : ℕ). bit_at t i) e in
      omega (arith, bit_at_and x free i, bit x (bit_and rest (low + x)) is, bit_at_and rest (low + x) i, bit free (bit_and rest high) free_is, bit_at_and rest high i, bit (bit_and (low + x) high) (low + x) below, bit_at_and (low + x) high i))

  from_part : (x : ℕ) → bit_and x free ≡ x → (bit_and low (low + x) ≡ low) × (bit_and (low + x) high ≡ low + x)
  from_part x part =
      let some : bit_and x (bit_and rest high) ≡ x = ap (bit_and x) (sym free_is) ∙ part in
      let told : (i : ℕ) → bit_at x i ≤ min (bit_at rest i) (bit_at high i) = λ i. let bit = ap (λ (n : ℕ). bit_at n i) some in omega (arith, bit_at_and x (bit_and rest high) i, bit_at_and rest high i) in
      let apart : bit_and x low ≡ 0 = same_from_bits (bit_and x low) 0 (λ i. let bit = ap (λ (n : ℕ). bit_at n i) (none_shared w low small) in omega (arith, bit_at_and x low i, bit_at_and rest low i, told i, bit_at-zero i)) in
      let sum : bit_or x low ≡ low + x = or_disjoint x low apart ∙ omega arith in (
        and_comm low (low + x) ∙ ap (λ (c : ℕ). bit_and c low) (sym sum) ∙ and_or_self low x,
        ap (λ (c : ℕ). bit_and c high) (sym sum)
            ∙ same_from_bits (bit_and (bit_or x low) high) (bit_or x low) (λ i. omega (arith, bit_at_and (bit_or x low) high i, bit_at_or x low i, bit_at_and low high i, ap (λ (n : ℕ). bit_at n i) own, told i))
            ∙ sum,
      )

  between_is : (x : ℕ) → (inside low (low + x) && inside (low + x) high) ≡ inside x free
  between_is x = let to = to_part x in let from = from_part x in grind (arith, nat_tests)

-- by the ends that are found
module _ (alone : ℕ → Bool → Bool) (bits : List ℕ) {ends : ℕ × ℕ} (found : ends ≡ (least alone bits, largest alone bits)) where
  abbrev size : ℕ
  size = 2 ^ length bits

  small_ends : (ends.0 < size) × (ends.1 < size)
  small_ends = subst (λ (e : ℕ × ℕ). (e.0 < size) × (e.1 < size)) (sym found) (number_below _ bits, number_below _ bits)

  pub room : ends.0 + (ends.1 - bit_and ends.0 ends.1) < 2 ^ length bits
  room = omega (arith, or_lt (length bits) ends.0 ends.1 small_ends.0 small_ends.1, or_add_and ends.0 ends.1, and_le_r ends.0 ends.1)

  abbrev within : ℕ → Bool
  within c = inside ends.0 c && inside c ends.1

  cells_within : filter within (range_with_len 0 size) ≡ cells_of (each alone) bits
  cells_within =
      ap (λ (e : ℕ × ℕ). filter (λ c. inside e.0 c && inside c e.1) (range_with_len 0 size)) found
      ∙ same (between alone bits) (λ c. each alone (valued bits c)) size 0 (λ c lt.
      let whole : 0 * size + c ≡ c = omega arith in
      sym (each_between alone bits 0 c (omega arith)) ∙ ap (λ (i : ℕ). each alone (valued bits i)) whole)

  module _ (own : bit_and ends.0 ends.1 ≡ ends.0) where
    parts_within : filter within (range_with_len 0 size) ≡ map (λ x. ends.0 + x) (filter (λ x. inside x (ends.1 - ends.0)) (range_with_len 0 size))
    parts_within =
        let left = size - ends.0 in
        passed within ends.0 0 ends.0 size left (omega (arith, small_ends.0)) (omega arith) (λ x ge lt. and_left (inside ends.0 x) (inside x ends.1) (ne_eqb (bit_and ends.0 x) ends.0 (λ is. omega (arith, is, and_le_r ends.0 x))))
        ∙ ap (filter within) (shift ends.0 0 ends.0 left (omega arith))
        ∙ moved within (λ x. ends.0 + x) (range_with_len 0 left)
        ∙ ap (map (λ x. ends.0 + x)) (
        filter_agree (λ x. within (ends.0 + x)) (λ x. inside x (ends.1 - ends.0)) (between_is (length bits) ends.0 ends.1 small_ends.1 own) (range_with_len 0 left)
        ∙ sym (trimmed (λ x. inside x (ends.1 - ends.0)) left 0 size (omega arith) (λ x ge. ne_eqb (bit_and x (ends.1 - ends.0)) x (λ is. omega (arith, is, own, and_le_r ends.0 ends.1, and_le_r x (ends.1 - ends.0), small_ends.1)))))

  none_within : (bit_and ends.0 ends.1 ≡ ends.0 → ⊥) → filter within (range_with_len 0 size) ≡ []
  none_within ne = passed within size 0 size size 0 (omega arith) (omega arith) (λ c ge lt. false_from_ne_true (within c) (λ e.
      let parts = and_parts (inside ends.0 c) (inside c ends.1) e in
      let above = eqb-true (bit_and ends.0 c) ends.0 parts.0 in
      ne (ap (λ (n : ℕ). bit_and n ends.1) (sym above) ∙ and_assoc ends.1 ends.0 c ∙ ap (bit_and ends.0) (eqb-true (bit_and c ends.1) c parts.1) ∙ above)))

  module _ (free gap : ℕ) {next : Option ℕ} (is : free ≡ ends.1 - bit_and ends.0 ends.1) (whole : free + gap ≡ 2 ^ length bits) where
    pub by_parts : bit_and ends.0 ends.1 ≡ ends.0 → next ≡ Some 0 → map (λ digits. ends.0 + digits) (parts_left (free + gap) free next) ≡ cells_of (each alone) bits
    by_parts own first =
        rw first (ap₂ (λ (cells mask : ℕ). map (λ digits. ends.0 + digits) (filter (λ digits. bit_and digits mask == digits) (range_with_len 0 cells))) (omega arith) (omega (arith, is, own)) ∙ sym (parts_within own) ∙ cells_within)

    pub none_admitted : (bit_and ends.0 ends.1 ≡ ends.0 → ⊥) → next ≡ None → map (λ digits. ends.0 + digits) (parts_left (free + gap) free next) ≡ cells_of (each alone) bits
    none_admitted ne no_first = rw no_first (sym (none_within ne) ∙ cells_within)
