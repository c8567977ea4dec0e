-- The routed kind: 104 bits of an IPv4 packet.
--     fields         a header's numbers in bit order, with what a rule says of each
--     side_by_side   what the fields mean together
--     routed         the kind's meaning: the same, except that whole port ranges alone match a portless header
--     alone          what a rule admits at one bit alone
--     IsHeader       the numbers of a header have their bits
--     rule_in        the rule that a row holds, or why it holds none: the first field that is wrong
-- Assumes nothing.
use Rattle.std.specs.Prelude.{ℕ, ◌^◌, ◌<◌, Bool, ◌&&◌, ◌||◌, List, [], ◌∷◌, is_some, IfSome, Ok, Err, Result}
use Rattle.std.specs.Result.{result_ok}
use Rattle.kinds.specs.Meaning.{Meaning}
use Rattle.kinds.specs.Values.{each}
use Rattle.kinds.specs.Fields.{Field, field, kind_of, alone_in}
use Rattle.kinds.specs.Checks.{◌and_then◌}
use Rattle.routed.specs.Packets.{port_bits}
use Rattle.routed.specs.Prefixes.{prefix_of, in_prefix, prefix_admits}
use Rattle.routed.specs.Ranges.{range_of, in_range, is_whole, range_admits, ends_admit}
use Rattle.routed.specs.Protocols.{protocol_of, is_protocol, protocol_admits}
use Rattle.routed.specs.declared.fault.RuleField.{RuleField}
use Rattle.routed.specs.declared.fault.RuleField.TheVariants.{Source, Destination, SourcePorts, DestinationPorts, Protocol}
use Rattle.routed.specs.declared.fault.Defect.{Defect}
use Rattle.routed.specs.declared.fault.Fault.{Fault}
use Rattle.routed.specs.declared.fault.Fault.TheVariants.{NoRule}
use Rattle.routed.specs.declared.packet.Header.{Header}
use Rattle.routed.specs.declared.rule.Rule.{Rule}
use Rattle.routed.specs.declared.rule.Row.{Row}

abbrev pub fields : List (Field Header Rule)
fields =
    field 32 (λ h. h.source) (λ r. r.source) in_prefix (λ p. each (prefix_admits p))
    ∷ field 32 (λ h. h.destination) (λ r. r.destination) in_prefix (λ p. each (prefix_admits p))
    ∷ field 16 (λ h. (port_bits h.ports).source) (λ r. r.source_ports) in_range range_admits
    ∷ field 16 (λ h. (port_bits h.ports).destination) (λ r. r.destination_ports) in_range range_admits
    ∷ field 8 (λ h. h.protocol) (λ r. r.protocol) is_protocol (λ p. each (protocol_admits p))
    ∷ []

-- a defect becomes the fault of the field that it was found in
abbrev pub in_field : {Part : Type 0} → RuleField → Result Part Defect → Result Part Fault
in_field at (Ok part) = Ok part
in_field at (Err defect) = Err (NoRule at defect)

abbrev pub rule_in : Row → Result Rule Fault
rule_in row =
    in_field Source (prefix_of row.source row.source_length) and_then λ source.
    in_field Destination (prefix_of row.destination row.destination_length) and_then λ destination.
    in_field SourcePorts (range_of row.source_low row.source_high) and_then λ source_ports.
    in_field DestinationPorts (range_of row.destination_low row.destination_high) and_then λ destination_ports.
    in_field Protocol (protocol_of row.protocol row.mask) and_then λ protocol.
    Ok (record { source = source; destination = destination; source_ports = source_ports; destination_ports = destination_ports; protocol = protocol })

-- both port ranges are whole
abbrev pub takes_every_port : Rule → Bool
takes_every_port r = is_whole r.source_ports && is_whole r.destination_ports

-- a header's bits, and what a rule matches and admits, by the fields alone
abbrev pub side_by_side : Meaning Header Rule Row
side_by_side = kind_of fields (λ row. result_ok (rule_in row))

-- a portless header has 0 for both ports, and is matched only by rules that take every port
abbrev pub routed : Meaning Header Rule Row
routed = record side_by_side { matches = λ r h. side_by_side.matches r h && (is_some h.ports || takes_every_port r) }

-- what a rule admits at a bit, whatever is asked at the others
abbrev pub alone : Rule → ℕ → Bool → Bool
alone r = alone_in ((32, prefix_admits r.source) ∷ (32, prefix_admits r.destination) ∷ (16, ends_admit r.source_ports) ∷ (16, ends_admit r.destination_ports) ∷ (8, protocol_admits r.protocol) ∷ [])

abbrev pub IsHeader : Header → Type 0
IsHeader h = (h.source < 2 ^ 32) × (h.destination < 2 ^ 32) × IfSome h.ports (λ ports. (ports.source < 2 ^ 16) × (ports.destination < 2 ^ 16)) × (h.protocol < 2 ^ 8)
