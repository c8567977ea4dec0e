-- How a fault's code is printed. Assumes nothing.
use Rattle.std.specs.Prelude.{ℕ, List, ◌++◌, codes}
use Rattle.std.specs.Fmt.{decimal}
use Rattle.kinds.specs.declared.code.FaultCode.{FaultCode}

abbrev pub code_text : FaultCode → List ℕ
code_text code = decimal code.number ++ codes " layer " ++ decimal code.layer ++ codes " place " ++ decimal code.place
