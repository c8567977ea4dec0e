-- Fourteen value bytes under fourteen mask bytes.
--     octets_and   the bytes with the bits outside a mask set to 0
--     inside       no value bit lies outside the mask: value AND mask is the value
-- Assumes nothing.
use Rattle.std.specs.Prelude.{Bool, ◌&&◌, bit_and}
use Rattle.kinds.specs.Bits.{mask_matches}
use Rattle.bridge.specs.declared.octets.Octets.{Octets}

abbrev pub octets_and : Octets → Octets → Octets
octets_and octets mask = record { first = bit_and octets.first mask.first; middle = bit_and octets.middle mask.middle; last = bit_and octets.last mask.last }

abbrev pub inside : Octets → Octets → Bool
inside value mask = mask_matches value.first mask.first value.first && mask_matches value.middle mask.middle value.middle && mask_matches value.last mask.last value.last
