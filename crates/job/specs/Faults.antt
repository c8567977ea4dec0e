-- How the faults of a job are told.
--     code_of   number, layer and place: those of the layer that refused
-- Assumes nothing.
use Rattle.kinds.specs.declared.code.FaultCode.{FaultCode}
use Rattle.routed.specs.Faults.{code_of as routed_code}
use Rattle.bridge.specs.Faults.{code_of as bridge_code}
use Rattle.table.specs.Refusals.{code_of as table_code}
use Rattle.records.specs.Refusals.{code_of as record_code}
use Rattle.job.specs.declared.fault.Fault.{Fault}
use Rattle.job.specs.declared.fault.Fault.TheVariants.{Record, OutOfOrder, Routed, Bridge, Table}

abbrev pub code_of : Fault → FaultCode
code_of (Record refusal) = record_code refusal
code_of OutOfOrder = record { number = 19; layer = 3; place = 0 }
code_of (Routed fault) = routed_code fault
code_of (Bridge fault) = bridge_code fault
code_of (Table fault) = table_code fault
