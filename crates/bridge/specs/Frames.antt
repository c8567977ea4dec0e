-- Reading a frame: destination (6 bytes), source (6) and length or type (2), as IEEE 802.3 places them. Assumes nothing.
use Rattle.std.specs.Prelude.{ℕ, List, [], ◌∷◌, length, Result, nat_lt}
use Rattle.kinds.specs.Bytes.{big_endian}
use Rattle.kinds.specs.Checks.{checked}
use Rattle.bridge.specs.declared.fault.Fault.{Fault}
use Rattle.bridge.specs.declared.fault.Fault.TheVariants.{Short}
use Rattle.bridge.specs.declared.frame.Header.{Header}

-- the header of a frame, or why it has none
abbrev pub header_of : List ℕ → Result Header Fault
header_of frame =
    checked ((nat_lt (length frame) 14, Short) ∷ [])
    (record { octets = record { first = big_endian frame 0 8; middle = big_endian frame 8 4; last = big_endian frame 12 2 } })
