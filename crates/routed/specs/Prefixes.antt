-- An address prefix.
--     in_prefix       an address begins with it
--     prefix_admits   the values that it admits at a bit
--     prefix_of       the prefix that two numbers make, or what is wrong with them
-- Assumes nothing.
use Rattle.std.specs.Prelude.{◌≡◌, ℕ, ◌-◌, ◌/◌, ◌%◌, ◌^◌, ◌≤◌, Bool, true, if◌then◌else◌, Ok, Err, Result, ◌==◌, nat_lt}
use Rattle.std.specs.Bool.{beq}
use Rattle.std.proofs.Math.Decide.{dec_le, ℕ_discrete}
use Rattle.kinds.specs.Bits.{bit_of}
use Rattle.routed.specs.declared.fault.Defect.{Defect}
use Rattle.routed.specs.declared.fault.Defect.TheVariants.{PrefixLength, StrayBit}
use Rattle.routed.specs.declared.prefix.Prefix.{Prefix}

-- the prefix bits agree
abbrev pub in_prefix : Prefix → ℕ → Bool
in_prefix p address = address / 2 ^ (32 - p.length) == p.address / 2 ^ (32 - p.length)

-- its own bit below its length, both values from there on
abbrev pub prefix_admits : Prefix → ℕ → Bool → Bool
prefix_admits p b v = if nat_lt b p.length then beq v (bit_of 32 p.address b) else true

-- the prefix, or the first check that fails: the length, then a one past it
abbrev pub prefix_if : (address length : ℕ) → Dec (length ≤ 32) → Dec (address % 2 ^ (32 - length) ≡ 0) → Result Prefix Defect
prefix_if address length (no _) clean = Err PrefixLength
prefix_if address length (yes short) (no _) = Err StrayBit
prefix_if address length (yes short) (yes clean) = Ok (record { address = address; length = length; short = short; clean = clean })

-- the prefix of an address and a length, or what is wrong with them
abbrev pub prefix_of : ℕ → ℕ → Result Prefix Defect
prefix_of address length = prefix_if address length (dec_le length 32) (ℕ_discrete (address % 2 ^ (32 - length)) 0)
