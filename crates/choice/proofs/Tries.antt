-- Going through the exchanges of a set: bit out by bit out, and for each bit in by bit in.
use Rattle.std.proofs.Common.{inl, inr, ◌≡◌, ℕ, suc, ◌+◌, ◌-◌, ◌<◌, true, false, List, [], ◌∷◌, ◌++◌, map, filter, Option, refl, ap, ◌∙◌, arith}
use Rattle.std.specs.List.{flat_map, range_with_len}
use Rattle.std.specs.declared.ops.ControlFlow.{ControlFlow}
use Rattle.std.specs.declared.ops.ControlFlow.TheVariants.{Continue, Break}
use Rattle.std.proofs.lemmas.Bool.{cases_Bool}
use Rattle.std.proofs.lemmas.Bool.Decides.{nat_tests}
use Rattle.bits.specs.Sets.{member, exchanged}
use Rattle.choice.specs.Growth.{is_free}
use Rattle.choice.specs.Evolution.{unchosen}
use Rattle.choice.specs.Tries.{going_on, try_of, tries_of, exchange_try}
use Rattle.choice.specs.declared.search.Offer.{Offer}
use Rattle.choice.specs.declared.evolve.Ended.{Ended}

range_first : (j width : ℕ) → j < width → range_with_len j (width - j) ≡ j ∷ range_with_len (j + 1) (width - (j + 1))
range_first j width lt = let more : width - j ≡ suc (width - (j + 1)) = omega arith in ap (range_with_len j) more

module _ (bits : List ℕ) (out width : ℕ) where
  -- the exchanges of one bit out that are left from a bit in on
  abbrev pub row_from : ℕ → List (List ℕ)
  row_from j = map (exchanged bits out) (filter (is_free bits) (range_with_len j (width - j)))

  row_skip : (j : ℕ) → j < width → is_free bits j ≡ false → row_from j ≡ row_from (j + 1)
  row_skip j lt free = ap (λ (l : List ℕ). map (exchanged bits out) (filter (is_free bits) l)) (range_first j width lt) ∙ rw free refl

  row_step : (j : ℕ) → j < width → is_free bits j ≡ true → row_from j ≡ exchanged bits out j ∷ row_from (j + 1)
  row_step j lt free = ap (λ (l : List ℕ). map (exchanged bits out) (filter (is_free bits) l)) (range_first j width lt) ∙ rw free refl

-- the exchanges of some bits out
abbrev pub rows_of : List ℕ → ℕ → List ℕ → List (List ℕ)
rows_of bits width outs = flat_map (λ out. map (exchanged bits out) (unchosen width bits)) outs

going_on_twice : (r : ControlFlow Ended ℕ) (f g h : ℕ → ControlFlow Ended ℕ) → ((left : ℕ) → h left ≡ going_on (f left) g) → going_on r h ≡ going_on (going_on r f) g
going_on_twice (Continue left) f g h each = each left
going_on_twice (Break ended) f g h each = refl

module _ (offer : List ℕ → Option Offer) (cost : ℕ) where
  tries_of-append : (xs ys : List (List ℕ)) (left : ℕ) → tries_of offer cost (xs ++ ys) left ≡ going_on (tries_of offer cost xs left) (λ now. tries_of offer cost ys now)
  tries_of-append [] ys left = refl
  tries_of-append (x ∷ xs) ys left = going_on_twice (try_of offer cost x left) (λ now. tries_of offer cost xs now) (λ now. tries_of offer cost ys now) (λ now. tries_of offer cost (xs ++ ys) now) (tries_of-append xs ys)

-- bit in by bit in
pub row_try : (offer : List ℕ → Option Offer) (cost : ℕ) (bits : List ℕ) (out width j left : ℕ) → j < width → tries_of offer cost (row_from bits out width j) left ≡ going_on (exchange_try offer cost bits out j left) (λ now. tries_of offer cost (row_from bits out width (j + 1)) now)
row_try offer cost bits out width j left below = elim (cases_Bool (is_free bits j)) [
  | inl free ↦ rw (row_step bits out width j below free, free) refl
  | inr chosen ↦ rw (row_skip bits out width j below chosen, chosen) refl
]

-- bit out by bit out
pub rows_try : (offer : List ℕ → Option Offer) (cost : ℕ) (bits : List ℕ) (width out left : ℕ) (rest : List ℕ) → tries_of offer cost (rows_of bits width (out ∷ rest)) left ≡ going_on (tries_of offer cost (map (exchanged bits out) (unchosen width bits)) left) (λ now. tries_of offer cost (rows_of bits width rest) now)
rows_try offer cost bits width out left rest = tries_of-append offer cost (map (exchanged bits out) (unchosen width bits)) (rows_of bits width rest) left

pub member_later : (b : ℕ) (outs rest : List ℕ) (out : ℕ) → outs ≡ out ∷ rest → member b rest ≡ true → member b outs ≡ true
member_later b outs rest out is has = rw is (grind (arith, nat_tests))
