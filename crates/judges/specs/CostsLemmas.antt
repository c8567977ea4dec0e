-- The costs of a list by its first sizes, and bounds of the largest size.
-- Proofs alone, which the code names: nothing here has to be believed.
use Rattle.std.specs.Prelude.{◌≡◌, ℕ, zero, suc, ◌+◌, ◌*◌, ◌^◌, ◌<◌, ◌≤◌, max, List, [], ◌∷◌, ◌++◌, length, take, fold, slice_index, refl}
use Rattle.std.proofs.Common.{ap, ◌∙◌, arith}
use Rattle.std.proofs.lemmas.List.{take_more}
use Rattle.std.proofs.lemmas.List.Recursion.{max_push}
use Rattle.std.proofs.lemmas.List.Sums.{sum_by_push}
use Rattle.judges.specs.Costs.{largest, squares}

largest_from : (a : ℕ) (xs : List ℕ) → fold max a xs ≡ max a (largest xs)
largest_from a [] = omega arith
largest_from a (x ∷ xs) = omega (arith, largest_from (max a x) xs, largest_from (max 0 x) xs)

pub get_or-largest : (xs : List ℕ) (i : ℕ) → i < length xs → slice_index xs i ≤ largest xs
get_or-largest [] i lt = absurd (omega arith)
get_or-largest (x ∷ xs) zero lt = omega (arith, largest_from (max 0 x) xs)
get_or-largest (x ∷ xs) (suc i) lt = omega (arith, largest_from (max 0 x) xs, get_or-largest xs i (omega arith))

pub largest_below : (bound : ℕ) (xs : List ℕ) → 0 < bound → ((k : ℕ) → k < length xs → slice_index xs k < bound) → largest xs < bound
largest_below bound [] some low = some
largest_below bound (x ∷ xs) some low = omega (arith, largest_from (max 0 x) xs, low 0 (omega arith), largest_below bound xs some (λ k lt. low (suc k) (omega arith)))

-- of sizes of 32 bits the largest is far below the bound of a cost
pub largest_fits : (xs : List ℕ) → ((k : ℕ) → k < length xs → slice_index xs k < 2 ^ 32) → largest xs < 2 ^ 63
largest_fits xs low = let few = largest_below (2 ^ 32) xs (omega arith) low in omega arith

largest_push : (xs : List ℕ) (x : ℕ) → largest (xs ++ x ∷ []) ≡ max (largest xs) x
largest_push = max_push largest (λ size. size) refl (λ x xs. largest_from (max 0 x) xs ∙ omega arith)

pub largest_more : (xs : List ℕ) (i : ℕ) → i < length xs → largest (take (i + 1) xs) ≡ max (largest (take i xs)) (slice_index xs i)
largest_more xs i lt = ap largest (take_more xs i 0 lt) ∙ largest_push (take i xs) (slice_index xs i)

squares_push : (xs : List ℕ) (x : ℕ) → squares (xs ++ x ∷ []) ≡ squares xs + x * x
squares_push xs x = sum_by_push (λ size. size * size) xs x

pub squares_more : (xs : List ℕ) (i : ℕ) → i < length xs → squares (take (i + 1) xs) ≡ squares (take i xs) + slice_index xs i * slice_index xs i
squares_more xs i lt = ap squares (take_more xs i 0 lt) ∙ squares_push (take i xs) (slice_index xs i)
