use Rattle.std.proofs.Common.{◌≡◌, ℕ, ◌+◌, ◌<◌, ◌≤◌, length, slice_index_or}
use Rattle.std.specs.List.{All}
use Rattle.bits.specs.Sixteens.{sixteen}
use Rattle.bits.proofs.chosen.Chosen.new.Given as goal

abbrev pub invariant-loop-bit : goal.invariant-loop-bit
invariant-loop-bit l = record {
  few : length l.bits ≤ 12;
  below : All (λ bit. bit < 1024) l.bit-iterator;
  len : length l.sixteens ≡ 64;
  so_far : (k : ℕ) → k < 64 → slice_index_or l.sixteens k 0 + sixteen k l.bit-iterator ≡ sixteen k l.bits;
}
