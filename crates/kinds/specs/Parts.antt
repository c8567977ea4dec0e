-- Some digits of a mask, put together. No public contract names these words.
--     parts        every way to do so, from a number on in rising order
--     parts_left   the same, or none where no number is told
--     AreDigits    some digits of a mask, where there are any
--     IsCellCount   so many cells as some chosen bits make: a power of two, 4,096 at most
-- Assumes nothing.
use Rattle.std.specs.Prelude.{◌≡◌, ℕ, ◌-◌, ◌^◌, ◌≤◌, List, [], filter, ◌==◌, bit_and, Some, None, Option, ⊤}
use Rattle.std.specs.List.{range_with_len}

module _ (cells mask : ℕ) where
  abbrev pub parts : ℕ → List ℕ
  parts from = filter (λ digits. bit_and digits mask == digits) (range_with_len from (cells - from))

  abbrev pub parts_left : Option ℕ → List ℕ
  parts_left None = []
  parts_left (Some from) = parts from

abbrev pub AreDigits : ℕ → Option ℕ → Type 0
AreDigits mask None = ⊤
AreDigits mask (Some digits) = bit_and digits mask ≡ digits

abbrev pub IsCellCount : ℕ → Type 0
IsCellCount cells = (n : ℕ) × (cells ≡ 2 ^ n) × (cells ≤ 4096)
