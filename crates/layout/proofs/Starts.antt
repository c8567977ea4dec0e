-- The starts of a list of sizes: how many there are, and what stands at each place.
use Rattle.std.proofs.Common.{◌≡◌, ℕ, ◌+◌, ◌<◌, ◌≤◌, List, length, get_or, set, take, sum, sym, ap, ◌∙◌, inl, inr, arith}
use Rattle.std.proofs.lemmas.Bool.{cases_eq}
use Rattle.std.proofs.lemmas.List.{ext_get_or, length-set, length-take-le, get_or-take, get_or-set_same, get_or-set_other}
use Rattle.std.proofs.lemmas.List.FromFn.{length-map-range_with_len, get_or-map-range_with_len}
use Rattle.layout.specs.Layout.{starts}

module _ (ss : List ℕ) where
  pub length_starts : length (starts ss) ≡ length ss + 1
  length_starts = length-map-range_with_len (λ block. sum (take block ss)) 0 (length ss + 1)

  pub get_or_starts : (i : ℕ) → i ≤ length ss → get_or (starts ss) i 0 ≡ sum (take i ss)
  get_or_starts i le = get_or-map-range_with_len (λ block. sum (take block ss)) 0 (length ss + 1) i i 0 (omega arith) (omega arith)

  -- numbers that are each block's start, and then the end of all
  pub all_starts : (xs : List ℕ) (start i : ℕ) → length xs ≡ length ss + 1 → i ≡ length ss → ((c : ℕ) → c < i → get_or xs c 0 ≡ sum (take c ss)) → start ≡ sum (take i ss) → set xs i start ≡ starts ss
  all_starts xs start i long is each end =
      let len = length-set xs i start in
      ext_get_or 0 (set xs i start) (starts ss) (len ∙ long ∙ sym length_starts) (λ c lt. elim (cases_eq c i) [
        | inl here ↦ ap (λ (j : ℕ). get_or (set xs i start) j 0) here ∙ get_or-set_same xs i start 0 (omega arith) ∙ end ∙ ap (λ (j : ℕ). sum (take j ss)) (sym here) ∙ sym (get_or_starts c (omega (arith, len)))
        | inr other ↦ get_or-set_other xs i c start 0 other ∙ each c (omega (arith, len)) ∙ sym (get_or_starts c (omega (arith, len)))
      ])

  pub front_starts : (xs : List ℕ) (i : ℕ) → length xs ≡ length ss → length ss ≤ i → ((c : ℕ) → c < i → get_or xs c 0 ≡ sum (take c ss)) → xs ≡ take (length ss) (starts ss)
  front_starts xs i long le each =
      let len = length-take-le (length ss) (starts ss) (omega (arith, length_starts)) in
      ext_get_or 0 xs (take (length ss) (starts ss)) (long ∙ sym len) (λ c lt. each c (omega arith) ∙ sym (get_or_starts c (omega arith)) ∙ sym (get_or-take (length ss) (starts ss) c 0 (omega arith)))
