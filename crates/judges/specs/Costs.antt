-- What lists of block sizes cost.
--     largest          the largest size: 0 where there is none
--     squares          the sum of the squares of the sizes
--     capped_squares   the same, and 2^63 - 1 where it is larger than that
-- Assumes nothing.
use Rattle.std.specs.Prelude.{ℕ, ◌-◌, ◌*◌, ◌^◌, min, max, List, fold, sum_by}

abbrev pub largest : List ℕ → ℕ
largest sizes = fold max 0 sizes

abbrev pub squares : List ℕ → ℕ
squares sizes = sum_by (λ size. size * size) sizes

abbrev pub capped_squares : List ℕ → ℕ
capped_squares sizes = min (squares sizes) (2 ^ 63 - 1)
