-- Numbers in network order. Assumes nothing.
use Rattle.std.specs.Prelude.{ℕ, zero, suc, ◌+◌, ◌*◌, List, slice_index}

-- the number that `count` bytes from a place on write, the most significant first
abbrev pub big_endian : List ℕ → ℕ → ℕ → ℕ
big_endian bytes at zero = 0
big_endian bytes at (suc count) = big_endian bytes at count * 256 + slice_index bytes (at + count)
