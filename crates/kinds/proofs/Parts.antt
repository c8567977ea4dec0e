-- The digits of a mask, put together in every way in rising order.
use Rattle.std.proofs.Common.{◌≡◌, ℕ, zero, suc, ◌+◌, ◌-◌, ◌/◌, ◌%◌, ◌^◌, ◌<◌, ◌≤◌, bit_and, Bool, ◌==◌, List, [], ◌∷◌, filter, sym, refl, ap, ◌∙◌, inl, inr, arith}
use Rattle.std.proofs.lemmas.Nat.{and_le_l, and_le_r, and_comm, and_assoc, and_shr, and-not, and_or_apart, or_disjoint}
use Rattle.std.proofs.lemmas.Nat.Bits.{bit_at_and}
use Rattle.std.proofs.lemmas.Bool.{ne_eqb, eq-eqb, cases_lt}
use Rattle.std.specs.List.{range_with_len}
use Rattle.kinds.specs.Parts.{parts}
use Rattle.kinds.proofs.Ranges.{passed}
use Rattle.std.specs.Int.Bits.{and_self, and_zero_r}
use native.Mathlib.Nat.{two-pow-succ}

module _ (n mask : ℕ) (within : mask < 2 ^ n) where
  abbrev pub others : ℕ
  others = 2 ^ n - 1 - mask

  pub none_shared : bit_and others mask ≡ 0
  none_shared = omega (arith, and-not n mask mask within within, and_self mask)

  -- a mask's digits have none of the others
  apart : (s : ℕ) → bit_and s mask ≡ s → bit_and s others ≡ 0
  apart s own = ap (λ (d : ℕ). bit_and d others) (sym own) ∙ and_assoc others s mask ∙ ap (bit_and s) (and_comm mask others ∙ none_shared) ∙ and_zero_r s

  -- all the others added leave the mask's digits as they are
  pub filled : (s : ℕ) → bit_and s mask ≡ s → bit_and (s + others) mask ≡ s
  filled s own = ap (λ (d : ℕ). bit_and d mask) (sym (or_disjoint s others (apart s own))) ∙ and_or_apart mask s others none_shared ∙ own

-- the digits of a mask behind some of its digits: a one is added, which all other digits carry on
abbrev pub next_part : (n mask s : ℕ) → ℕ
next_part n mask s = bit_and (s + (2 ^ n - mask)) mask

-- they are more, and the least that are
pub next_more : (n mask s : ℕ) → mask < 2 ^ n → s < mask → s < next_part n mask s
next_more n mask s within lt =
    let sum = s + (2 ^ n - mask) in
    omega (arith, and-not n mask sum within (omega arith), and_le_l (2 ^ n - 1 - mask) sum, and_comm sum mask)

halved : (a b : ℕ) → bit_and a b ≡ a → bit_and (a / 2) (b / 2) ≡ a / 2
halved a b own = sym (and_shr a b 1) ∙ ap (λ (d : ℕ). d / 2) own

pub next_least : (n mask s x : ℕ) → mask < 2 ^ n → bit_and s mask ≡ s → bit_and x mask ≡ x → s < x → next_part n mask s ≤ x
next_least zero mask s x within own own_x lt = omega (arith, own_x, and_le_r x mask)
next_least (suc n) mask s x within own own_x lt =
    let g = mask / 2 in
    let h = s / 2 in
    let sum = s + (2 ^ suc n - mask) in
    let few : g < 2 ^ n = omega (arith, two-pow-succ n) in
    let half : bit_and sum mask / 2 ≡ bit_and (sum / 2) g = and_shr sum mask 1 in
    elim (cases_lt (s % 2) (mask % 2)) [
      | inl free ↦ (
          let carried : sum / 2 ≡ h + (2 ^ n - 1 - g) = omega (arith, two-pow-succ n) in
          omega (arith, half, ap (λ (d : ℕ). bit_and d g) carried, filled n g few h (halved s mask own)))
      | inr taken ↦ (
          let carried : sum / 2 ≡ h + (2 ^ n - g) = omega (arith, two-pow-succ n, bit_at_and s mask 0, own) in
          let even : bit_and sum mask % 2 ≡ 0 = omega (arith, two-pow-succ n, bit_at_and s mask 0, own, bit_at_and sum mask 0) in
          omega (arith, half, even, ap (λ (d : ℕ). bit_and d g) carried, next_least n g h (x / 2) few (halved s mask own) (halved x mask own_x) (omega (arith, bit_at_and s mask 0, own, bit_at_and x mask 0, own_x))))
    ]

module _ (n cells mask digits : ℕ) (power : cells ≡ 2 ^ n) (within : mask < cells) (own : bit_and digits mask ≡ digits) where
  abbrev test : ℕ → Bool
  test x = bit_and x mask == x

  below : digits ≤ mask
  below = omega (arith, own, and_le_r digits mask)

  first : parts cells mask digits ≡ digits ∷ filter test (range_with_len (digits + 1) (cells - (digits + 1)))
  first = let more : cells - digits ≡ suc (cells - (digits + 1)) = omega (arith, below) in rw (more, eq-eqb (bit_and digits mask) digits own) refl

  -- all digits of the mask are the last of them
  pub parts_last : digits ≡ mask → parts cells mask digits ≡ digits ∷ []
  parts_last all =
      let many = cells - (digits + 1) in
      first ∙ ap (λ (xs : List ℕ). digits ∷ xs)
      (passed test many (digits + 1) (digits + 1 + many) many 0 (omega arith) refl
      (λ x ge lt. ne_eqb (bit_and x mask) x (λ is. omega (arith, is, and_le_r x mask))))

  pub parts_next : (digits ≡ mask → ⊥) → (gap : ℕ) → mask + gap ≡ cells → parts cells mask digits ≡ digits ∷ parts cells mask (bit_and (digits + gap) mask)
  parts_next more gap whole =
      let few : mask < 2 ^ n = omega (arith, power) in
      let next = next_more n mask digits few (omega (arith, below, more)) in
      let is : bit_and (digits + gap) mask ≡ next_part n mask digits = ap (λ (g : ℕ). bit_and (digits + g) mask) (omega (arith, power)) in
      let to = bit_and (digits + gap) mask in
      first ∙ ap (λ (xs : List ℕ). digits ∷ xs)
      (passed test (to - (digits + 1)) (digits + 1) to (cells - (digits + 1)) (cells - to) (omega (arith, is, next, and_le_r (digits + gap) mask)) (omega (arith, is, next))
      (λ x ge lt. ne_eqb (bit_and x mask) x (λ is_part. omega (arith, is, next, next_least n mask digits x few own is_part (omega arith)))))
