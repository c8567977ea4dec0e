-- A protocol under a mask.
--     is_protocol       protocol AND mask equals the value
--     protocol_admits   the values that it admits at a bit
--     protocol_of       the protocol match that two numbers make, or what is wrong with them
-- Assumes nothing.
use Rattle.std.specs.Prelude.{◌≡◌, ℕ, Bool, true, ◌||◌, Ok, Err, Result, ◌==◌, bit_and}
use Rattle.std.proofs.Math.Bool.{Bool-discrete}
use Rattle.std.proofs.Math.Decide.{ℕ_discrete}
use Rattle.kinds.specs.Bits.{mask_matches, mask_admits}
use Rattle.routed.specs.declared.fault.Defect.{Defect}
use Rattle.routed.specs.declared.fault.Defect.TheVariants.{ProtocolMask, StrayBit}
use Rattle.routed.specs.declared.protocol.ProtocolMatch.{ProtocolMatch}

abbrev pub is_protocol : ProtocolMatch → ℕ → Bool
is_protocol p protocol = mask_matches p.value p.mask protocol

abbrev pub protocol_admits : ProtocolMatch → ℕ → Bool → Bool
protocol_admits p b v = mask_admits 8 p.value p.mask b v

-- a mask of no bits or of all eight
abbrev pub whole : ℕ → Bool
whole mask = mask == 0 || mask == 255

-- the protocol, or the first check that fails: the mask, then a value bit outside it
abbrev pub protocol_if : (value mask : ℕ) → Dec (whole mask ≡ true) → Dec (bit_and value mask ≡ value) → Result ProtocolMatch Defect
protocol_if value mask (no _) inside = Err ProtocolMask
protocol_if value mask (yes whole) (no _) = Err StrayBit
protocol_if value mask (yes whole) (yes inside) = Ok (record { value = value; mask = mask; whole = whole; inside = inside })

-- the protocol of a value and a mask, or what is wrong with them
abbrev pub protocol_of : ℕ → ℕ → Result ProtocolMatch Defect
protocol_of value mask = protocol_if value mask (Bool-discrete (whole mask) true) (ℕ_discrete (bit_and value mask) value)
