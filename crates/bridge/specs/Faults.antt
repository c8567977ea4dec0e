-- How the faults of this kind are told. Assumes nothing.
use Rattle.std.specs.Prelude.{ℕ}
use Rattle.kinds.specs.declared.code.FaultCode.{FaultCode}
use Rattle.bridge.specs.declared.fault.Fault.{Fault}
use Rattle.bridge.specs.declared.fault.Fault.TheVariants.{Short, StrayBit}

abbrev pub number : Fault → ℕ
number Short = 1
number StrayBit = 6

abbrev pub layer : Fault → ℕ
layer fault = 1

abbrev pub place : Fault → ℕ
place fault = 0

abbrev pub code_of : Fault → FaultCode
code_of fault = record { number = number fault; layer = layer fault; place = place fault }
