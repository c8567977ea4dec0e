-- The numbers that are admitted bit by bit, and how they are found. No public contract names these words.
--     least      the number that has a 1 at each bit where 0 is barred: where any number is admitted, the least one
--     largest    the number that has a 1 at each bit where 1 is admitted: where any number is admitted, the largest one
-- Assumes nothing.
use Rattle.std.specs.Prelude.{ℕ, Bool, true, false, not, List}
use Rattle.kinds.specs.Values.{number_of}

module _ (alone : ℕ → Bool → Bool) (bits : List ℕ) where
  abbrev pub least : ℕ
  least = number_of (λ b. not (alone b false)) bits

  abbrev pub largest : ℕ
  largest = number_of (λ b. alone b true) bits
