-- Filters over ranges of numbers.
use Rattle.std.proofs.Common.{◌≡◌, ℕ, zero, suc, ◌+◌, ◌<◌, ◌≤◌, Bool, false, cond, List, [], ◌∷◌, map, filter, refl, ap, ap₂, inl, inr, arith}
use Rattle.std.specs.List.{range_with_len}
use Rattle.std.proofs.lemmas.Bool.{cases_Bool}

-- numbers of a range that fail a test are passed over
pub passed : (test : ℕ → Bool) (n from to many left : ℕ) → many ≡ n + left → to ≡ from + n → ((x : ℕ) → from ≤ x → x < from + n → test x ≡ false) → filter test (range_with_len from many) ≡ filter test (range_with_len to left)
passed test zero from to many left count place none = ap₂ (λ (a b : ℕ). filter test (range_with_len a b)) (omega arith) (omega arith)
passed test (suc n) from to zero left count place none = absurd (omega arith)
passed test (suc n) from to (suc many) left count place none =
    rw (none from (omega arith) (omega arith)) (passed test n (from + 1) to many left (omega arith) (omega arith) (λ x ge lt. none x (omega arith) (omega arith)))

-- numbers of a range, moved
pub shift : (by from start n : ℕ) → start ≡ by + from → range_with_len start n ≡ map (λ x. by + x) (range_with_len from n)
shift by from start zero place = refl
shift by from start (suc n) place = ap₂ (λ (x : ℕ) (xs : List ℕ). x ∷ xs) place (shift by (from + 1) (start + 1) n (omega arith))

pub moved : (test : ℕ → Bool) (move : ℕ → ℕ) (xs : List ℕ) → filter test (map move xs) ≡ map move (filter (λ x. test (move x)) xs)
moved test move [] = refl
moved test move (x ∷ xs) = elim (cases_Bool (test (move x))) [ inl t ↦ rw (t, moved test move xs) refl | inr f ↦ rw (f, moved test move xs) refl ]

-- the last numbers of a range fail a test
pub trimmed : (test : ℕ → Bool) (n from many : ℕ) → n ≤ many → ((x : ℕ) → from + n ≤ x → test x ≡ false) → filter test (range_with_len from many) ≡ filter test (range_with_len from n)
trimmed test zero from many le none = passed test many from (from + many) many 0 (omega arith) refl (λ x ge lt. none x (omega arith))
trimmed test (suc n) from zero le none = absurd (omega arith)
trimmed test (suc n) from (suc many) le none =
    ap (λ (xs : List ℕ). cond (test from) (from ∷ xs) xs) (trimmed test n (from + 1) many (omega arith) (λ x ge. none x (omega arith)))

-- two tests that agree on a range
pub same : (test own : ℕ → Bool) (n from : ℕ) → ((x : ℕ) → x < from + n → test x ≡ own x) → filter test (range_with_len from n) ≡ filter own (range_with_len from n)
same test own zero from alike = refl
same test own (suc n) from alike = ap₂ (λ (t : Bool) (xs : List ℕ). cond t (from ∷ xs) xs) (alike from (omega arith)) (same test own n (from + 1) (λ x lt. alike x (omega arith)))
