-- How the faults of this kind are told. Assumes nothing.
use Rattle.std.specs.Prelude.{ℕ}
use Rattle.kinds.specs.declared.code.FaultCode.{FaultCode}
use Rattle.routed.specs.declared.fault.RuleField.{RuleField}
use Rattle.routed.specs.declared.fault.RuleField.TheVariants.{Source, Destination, SourcePorts, DestinationPorts, Protocol}
use Rattle.routed.specs.declared.fault.Defect.{Defect}
use Rattle.routed.specs.declared.fault.Defect.TheVariants.{PrefixLength, StrayBit, RangeOrder, ProtocolMask}
use Rattle.routed.specs.declared.fault.Fault.{Fault}
use Rattle.routed.specs.declared.fault.Fault.TheVariants.{Short, Version, HeaderLength, NoPorts, NoRule}

abbrev pub defect_number : Defect → ℕ
defect_number PrefixLength = 5
defect_number StrayBit = 6
defect_number RangeOrder = 7
defect_number ProtocolMask = 8

abbrev pub field_place : RuleField → ℕ
field_place Source = 1
field_place Destination = 2
field_place SourcePorts = 3
field_place DestinationPorts = 4
field_place Protocol = 5

abbrev pub number : Fault → ℕ
number Short = 1
number Version = 2
number HeaderLength = 3
number NoPorts = 4
number (NoRule field defect) = defect_number defect

abbrev pub layer : Fault → ℕ
layer fault = 1

-- a rule's field, or 0 for a packet
abbrev pub place : Fault → ℕ
place Short = 0
place Version = 0
place HeaderLength = 0
place NoPorts = 0
place (NoRule field defect) = field_place field

abbrev pub code_of : Fault → FaultCode
code_of fault = record { number = number fault; layer = layer fault; place = place fault }
