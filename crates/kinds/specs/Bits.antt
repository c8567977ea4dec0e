-- The bits of a number, and a number under a mask.
--     digit          the binary digit of weight 2 ^ place
--     bit_of         bit b of a number of some width, the most significant bit first
--     mask_matches   number AND mask equals the value
--     mask_admits    at a mask bit of 1 the value's bit alone, at 0 both
-- Assumes nothing.
use Rattle.std.specs.Prelude.{ℕ, ◌-◌, ◌/◌, ◌%◌, ◌^◌, Bool, true, if◌then◌else◌, ◌==◌, bit_and}
use Rattle.std.specs.Bool.{beq}

abbrev pub digit : ℕ → ℕ → Bool
digit n place = n / 2 ^ place % 2 == 1

abbrev pub bit_of : ℕ → ℕ → ℕ → Bool
bit_of width n b = digit n (width - 1 - b)

abbrev pub mask_matches : (value mask n : ℕ) → Bool
mask_matches value mask n = bit_and n mask == value

abbrev pub mask_admits : (width value mask b : ℕ) → Bool → Bool
mask_admits width value mask b v = if bit_of width mask b then beq v (bit_of width value b) else true
