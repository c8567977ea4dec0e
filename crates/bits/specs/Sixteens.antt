-- The bits of a set among sixteen, as the digits of a number: of the sixteen k, bit 16 k is worth 2 ^ 15, and bit 16 k + 15 is worth 1.
--     worth     what a bit is worth in a sixteen, or 0 where it lies in another
--     sixteen   what some bits are worth together
--     bits_of   the bits of a set as a count reads it,
--     IsMade    and what it promises: its places and its sixteens are those of a set
-- Assumes nothing.
use Rattle.std.specs.Prelude.{◌≡◌, ℕ, ◌+◌, ◌-◌, ◌/◌, ◌%◌, ◌^◌, ◌<◌, ◌==◌, if◌then◌else◌, List, [], ◌∷◌, length, take, slice_index_or}
use Rattle.bits.specs.Chosen.{IsBits}
use Rattle.bits.specs.declared.chosen.Chosen.TheInside.{Inside}

abbrev pub worth : (k b : ℕ) → ℕ
worth k b = if b / 16 == k then 2 ^ (15 - b % 16) else 0

abbrev pub sixteen : (k : ℕ) → List ℕ → ℕ
sixteen k [] = 0
sixteen k (b ∷ bits) = worth k b + sixteen k bits

abbrev pub bits_of : Inside → List ℕ
bits_of c = c.bits

pub record IsMade (c : Inside) : Type 0 where
  pub bits : IsBits c.bits
  pub places : take (length c.bits) c.places ≡ c.bits
  pub sixteens : (k : ℕ) → k < 64 → slice_index_or c.sixteens k 0 ≡ sixteen k c.bits
