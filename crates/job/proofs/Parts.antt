-- A part of a list, at its front, that was put back.
use Rattle.std.proofs.Common.{◌≡◌, ℕ, ◌≤◌, ◌≢◌, List, ◌++◌, length, take, drop, min, ap, sym, refl, ◌∙◌, arith}
use native.Mathlib.Decide.{ℕ_discrete}
use Rattle.std.proofs.lemmas.List.{take_at, take_all, length-append, length-drop}
use Rattle.std.proofs.lemmas.Slice.{drop-append-drop}

module _ {X : Type 0} (n own : ℕ) (old part : List X) (is : own ≡ min n (length old)) (long : length part ≡ own) where
  whole : take (length part) (part ++ drop own old) ≡ part
  whole = take_at part (drop own old) (length part) refl

  -- where the list is shorter than asked for, there is nothing behind the part
  short : n ≢ own → length (part ++ drop own old) ≤ length part
  short other = omega (arith, is, long, length-append part (drop own old), length-drop own old, other)

  pub part_taken : take n (part ++ drop own old) ≡ part
  part_taken =
      elim (ℕ_discrete n own) [
        | yes same ↦ take_at part (drop own old) n (long ∙ sym same)
        | no other ↦ take_all n (part ++ drop own old) (omega (arith, is, long, short other)) ∙ sym (take_all (length part) (part ++ drop own old) (short other)) ∙ whole
      ]

  pub rest_kept : drop n (part ++ drop own old) ≡ drop n old
  rest_kept = drop-append-drop own old part n (omega (arith, is)) long

  pub part_found : take n old ≡ take own old
  part_found =
      elim (ℕ_discrete n own) [
        | yes same ↦ ap (λ m. take m old) same
        | no other ↦ take_all n old (omega (arith, is, other)) ∙ sym (take_all own old (omega (arith, is, other)))
      ]
