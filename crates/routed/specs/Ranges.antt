-- A port range.
--     in_range       a port lies in it
--     is_whole       it is every port
--     SomePort       some port in it has some values, each at its bit
--     range_admits   that as a test, by trying the ports
--     ends_admit     the same for one value alone, by the two ends
--     range_of       the range that two numbers make, or what is wrong with them
-- Assumes nothing.
use Rattle.std.specs.Prelude.{◌≡◌, ℕ, zero, suc, ◌+◌, ◌-◌, ◌/◌, ◌^◌, ◌≤◌, Bool, true, false, not, ◌&&◌, ◌||◌, List, Ok, Err, Result, ◌==◌, nat_le}
use Rattle.std.specs.Bool.{beq}
use Rattle.std.proofs.Math.Decide.{dec_le}
use Rattle.kinds.specs.Bits.{bit_of}
use Rattle.kinds.specs.Values.{has}
use Rattle.routed.specs.declared.fault.Defect.{Defect}
use Rattle.routed.specs.declared.fault.Defect.TheVariants.{RangeOrder}
use Rattle.routed.specs.declared.ports.PortRange.{PortRange}

abbrev pub in_range : PortRange → ℕ → Bool
in_range r port = nat_le r.low port && nat_le port r.high

-- from 0 to 65,535
abbrev pub is_whole : PortRange → Bool
is_whole r = r.low == 0 && r.high == 65535

abbrev pub SomePort : PortRange → List (ℕ × Bool) → Type 0
SomePort r asked = (port : ℕ) × (in_range r port ≡ true) × (has (bit_of 16 port) asked ≡ true)

-- whether some number below n passes a test
abbrev pub some_below : (ℕ → Bool) → ℕ → Bool
some_below test zero = false
some_below test (suc n) = test n || some_below test n

-- whether some port in the range has all the values
abbrev pub range_admits : PortRange → List (ℕ × Bool) → Bool
range_admits r asked = some_below (λ port. in_range r port && has (bit_of 16 port) asked) (r.high + 1)

-- one value alone: counting up from one end to the other, the bits down to b all stay, or the last of them takes both values
abbrev pub ends_admit : PortRange → ℕ → Bool → Bool
ends_admit r b v = not (r.low / 2 ^ (15 - b) == r.high / 2 ^ (15 - b)) || beq (bit_of 16 r.low b) v

-- the range, or the check that fails
abbrev pub range_if : (low high : ℕ) → Dec (low ≤ high) → Result PortRange Defect
range_if low high (no _) = Err RangeOrder
range_if low high (yes ordered) = Ok (record { low = low; high = high; ordered = ordered })

-- the range of two ends, or what is wrong with them
abbrev pub range_of : ℕ → ℕ → Result PortRange Defect
range_of low high = range_if low high (dec_le low high)
