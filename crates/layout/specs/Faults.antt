-- How a spoilt area is told.
--     code_of       its number, layer and place
--     spoilt_text   in words
-- Assumes nothing.
use Rattle.std.specs.Prelude.{ℕ, List, codes}
use Rattle.kinds.specs.declared.code.FaultCode.{FaultCode}
use Rattle.blocks.specs.Faults.{table_fault}
use Rattle.layout.specs.declared.spoilt.Spoilt.{Spoilt}
use Rattle.layout.specs.declared.spoilt.Spoilt.TheVariants.{Bounds, Entry}

abbrev pub code_of : Spoilt → FaultCode
code_of spoilt = table_fault 15

abbrev pub spoilt_text : Spoilt → List ℕ
spoilt_text Bounds = codes "the bounds of a block are bad"
spoilt_text Entry = codes "an entry names no filled line"
