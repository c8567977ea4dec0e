-- Reading a packet: where RFC 791 places version, header length, flags and fragment offset, protocol and addresses, and the ports behind the header.
-- Assumes nothing.
use Rattle.std.specs.Prelude.{ℕ, ◌*◌, ◌/◌, ◌%◌, ◌^◌, Bool, if◌then◌else◌, not, ◌&&◌, ◌||◌, List, [], ◌∷◌, length, drop, Some, None, Option, Result, ◌==◌, nat_lt, slice_index, unwrap_or}
use Rattle.kinds.specs.Bytes.{big_endian}
use Rattle.kinds.specs.Checks.{checked}
use Rattle.routed.specs.declared.fault.Fault.{Fault}
use Rattle.routed.specs.declared.fault.Fault.TheVariants.{Short, Version, HeaderLength, NoPorts}
use Rattle.routed.specs.declared.packet.Header.{Header}
use Rattle.routed.specs.declared.packet.Ports.{Ports}

-- TCP and UDP begin with a source and a destination port
abbrev pub has_ports : ℕ → Bool
has_ports protocol = protocol == 6 || protocol == 17

-- a fragment behind the first: its offset, the low 13 bits under three flags, is not 0
abbrev pub is_later_fragment : ℕ → Bool
is_later_fragment flags_and_offset = not (flags_and_offset % 2 ^ 13 == 0)

-- the two ports that bytes begin with
abbrev pub first_ports : List ℕ → Ports
first_ports bytes = record { source = big_endian bytes 0 2; destination = big_endian bytes 2 2 }

-- the ports of a protocol that has none, and what stands in the port bits of a portless header
abbrev pub zero_ports : Ports
zero_ports = record { source = 0; destination = 0 }

-- the numbers in a header's port bits
abbrev pub port_bits : Option Ports → Ports
port_bits ports = unwrap_or ports zero_ports

module _ (packet : List ℕ) where
  abbrev pub version : ℕ
  version = slice_index packet 0 / 16

  -- in bytes, options included
  abbrev pub header_length : ℕ
  header_length = 4 * (slice_index packet 0 % 16)

  abbrev pub protocol_in : ℕ
  protocol_in = slice_index packet 9

  -- what stands behind the header
  abbrev pub payload : List ℕ
  payload = drop header_length packet

  abbrev pub is_later : Bool
  is_later = is_later_fragment (big_endian packet 6 2)

  -- whether the payload begins with ports: that of a later fragment begins with bytes from the middle of what was sent
  abbrev pub has_port_bytes : Bool
  has_port_bytes = has_ports protocol_in && not is_later

  -- none where the packet is a later fragment of a protocol that has ports: its header is portless
  abbrev pub ports_in : Option Ports
  ports_in = if not (has_ports protocol_in) then Some zero_ports else (if is_later then None else Some (first_ports payload))

  -- the header of a packet, or why it has none
  abbrev pub header_of : Result Header Fault
  header_of =
      checked
      ((nat_lt (length packet) 20, Short)
      ∷ (not (version == 4), Version)
      ∷ (nat_lt header_length 20 || nat_lt (length packet) header_length, HeaderLength)
      ∷ (has_port_bytes && nat_lt (length payload) 4, NoPorts)
      ∷ [])
      (record { source = big_endian packet 12 4; destination = big_endian packet 16 4; ports = ports_in; protocol = protocol_in })
