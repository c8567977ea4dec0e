-- Which sets the exchanges of a set are: each chosen bit for each unchosen one, and no others.
use Rattle.std.proofs.Common.{◌≡◌, ℕ, zero, suc, ◌<◌, Bool, true, List, [], ◌∷◌, map, filter, get_or, refl, ap, ◌∙◌, inl, inr, arith}
use Rattle.std.specs.List.{All, Contains, flat_map, range_with_len}
use Rattle.std.proofs.lemmas.Bool.{cases_Bool, cases_eq}
use Rattle.std.proofs.lemmas.Bool.Decides.{nat_tests}
use Rattle.std.proofs.lemmas.List.FromFn.{length-range_with_len, get_or-range_with_len}
use Rattle.std.proofs.lemmas.List.Elements.{All-nil, All-append, All-map, All-filter, filter_passes, Contains-append_left, Contains-append_right}
use Rattle.std.proofs.lemmas.List.{get_or_default}
use Rattle.bits.proofs.Members.{member_at}
use Rattle.bits.specs.Sets.{member, exchanged}
use Rattle.choice.specs.Growth.{is_free}
use Rattle.choice.specs.Evolution.{unchosen, exchanges}

Contains_first : {X : Type 0} (x : X) (xs : List X) → Contains (x ∷ xs) x
Contains_first x xs = (0, omega arith, refl)

Contains_later : {X : Type 0} (x y : X) (xs : List X) → Contains xs y → Contains (x ∷ xs) y
Contains_later x y xs has = (suc has.0, omega (arith, has.1), has.2)

Contains_filter : {X : Type 0} (p : X → Bool) (xs : List X) (x : X) → Contains xs x → p x ≡ true → Contains (filter p xs) x
Contains_filter p [] x has is = absurd (omega (arith, has.1))
Contains_filter p (y ∷ ys) x (zero, lt, e) is = rw (ap p e ∙ is) (0, omega arith, e)
Contains_filter p (y ∷ ys) x (suc k, lt, e) is =
    let rest = Contains_filter p ys x (k, omega arith, e) is in
    elim (cases_Bool (p y)) [ inl t ↦ rw t (Contains_later y x (filter p ys) rest) | inr f ↦ rw f rest ]

Contains_map : {X Y : Type 0} (f : X → Y) (xs : List X) (x : X) → Contains xs x → Contains (map f xs) (f x)
Contains_map f [] x has = absurd (omega (arith, has.1))
Contains_map f (y ∷ ys) x (zero, lt, e) = (0, omega arith, ap f e)
Contains_map f (y ∷ ys) x (suc k, lt, e) = Contains_later (f y) (f x) (map f ys) (Contains_map f ys x (k, omega arith, e))

Contains_flat_map : {X Y : Type 0} (f : X → List Y) (xs : List X) (x : X) (y : Y) → Contains xs x → Contains (f x) y → Contains (flat_map f xs) y
Contains_flat_map f [] x y has here = absurd (omega (arith, has.1))
Contains_flat_map f (z ∷ zs) x y (zero, lt, e) here = Contains-append_left (f z) (flat_map f zs) y (rw e here)
Contains_flat_map f (z ∷ zs) x y (suc k, lt, e) here = Contains-append_right (f z) (flat_map f zs) y (Contains_flat_map f zs x y (k, omega arith, e) here)

All_flat_map : {X Y : Type 0} (P : Y → Type 0) (f : X → List Y) (xs : List X) → ((x : X) → Contains xs x → All P (f x)) → All P (flat_map f xs)
All_flat_map P f [] all = All-nil P
All_flat_map P f (x ∷ xs) all = All-append P (f x) (flat_map f xs) (all x (Contains_first x xs)) (All_flat_map P f xs (λ y has. all y (Contains_later x y xs has)))

member_contains : (b : ℕ) (l : List ℕ) → Contains l b → member b l ≡ true
member_contains b l has = member_at b l has.0 has.1 (get_or_default l has.0 0 b has.1 ∙ has.2)

contains_member : (b : ℕ) (l : List ℕ) → member b l ≡ true → Contains l b
contains_member b [] is = absurd (grind (arith, nat_tests))
contains_member b (c ∷ cs) is = elim (cases_eq b c) [
  | inl p ↦ (0, omega arith, omega arith)
  | inr n ↦ Contains_later c b cs (contains_member b cs (grind (arith, nat_tests)))
]

module _ (width : ℕ) (bits : List ℕ) where
  all_unchosen : All (λ b. (b < width) × (is_free bits b ≡ true)) (unchosen width bits)
  all_unchosen k d lt =
      let range = range_with_len 0 width in
      let below : All (λ b. b < width) range = λ j e p. omega (arith, length-range_with_len 0 width, get_or-range_with_len 0 width j e (omega (arith, length-range_with_len 0 width))) in
      (All-filter (is_free bits) (λ b. b < width) range below k d lt, filter_passes (is_free bits) range k d lt)

  -- every exchange is one of a chosen bit for an unchosen one
  pub all_exchanges : (P : List ℕ → Type 0) → ((out b : ℕ) → member out bits ≡ true → b < width → is_free bits b ≡ true → P (exchanged bits out b)) → All P (exchanges width bits)
  all_exchanges P each =
      All_flat_map P (λ out. map (exchanged bits out) (unchosen width bits)) bits
      (λ out has. All-map P (exchanged bits out) (unchosen width bits) (λ k d lt. let free = all_unchosen k d lt in each out (get_or (unchosen width bits) k d) (member_contains out bits has) free.0 free.1))

  -- and each of these is among them
  pub has_exchange : (out b : ℕ) → member out bits ≡ true → b < width → is_free bits b ≡ true → Contains (exchanges width bits) (exchanged bits out b)
  has_exchange out b has below free =
      let inside : Contains (range_with_len 0 width) b = (b, omega (arith, length-range_with_len 0 width), omega (arith, get_or-range_with_len 0 width b b below)) in
      Contains_flat_map (λ o. map (exchanged bits o) (unchosen width bits)) bits out (exchanged bits out b) (contains_member out bits has)
      (Contains_map (exchanged bits out) (unchosen width bits) b (Contains_filter (is_free bits) (range_with_len 0 width) b inside free))
