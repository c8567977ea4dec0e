-- A kind whose headers have two bits, and whose rules match one header each. Assumes nothing.
use Rattle.std.specs.Prelude.{ℕ, Bool, false, ◌==◌, ◌&&◌, not, if◌then◌else◌, Some}
use Rattle.kinds.specs.Meaning.{Meaning}
use Rattle.kinds.specs.Values.{each}
use Rattle.choice_tests.specs.declared.narrow.Pair.{Pair}

abbrev pub same : Bool → Bool → Bool
same a b = if a then b else not b

abbrev pub pair_bit : Pair → ℕ → Bool
pair_bit pair b = if b == 0 then pair.first else if b == 1 then pair.second else false

abbrev pub narrow : Meaning Pair Pair Pair
narrow = record {
  width = 2;
  bit = pair_bit;
  matches = λ rule header. same rule.first header.first && same rule.second header.second;
  admits = λ rule asked. each (λ b value. same (pair_bit rule b) value) asked;
  holds = λ row. Some row;
}
