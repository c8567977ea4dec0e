-- How the refusals of tables are told.
--     table_fault    a fault of the layer of books and tables that speaks of no line
--     number         the number of a refusal
--     code_of        its number, layer and place
--     refusal_text   how it is printed in words
-- Assumes nothing.
use Rattle.std.specs.Prelude.{ℕ, List, codes}
use Rattle.kinds.specs.declared.code.FaultCode.{FaultCode}
use Rattle.blocks.specs.declared.refusal.Refusal.{Refusal}
use Rattle.blocks.specs.declared.refusal.Refusal.TheVariants.{TooManyLines, ShortTally, NoRoom}

abbrev pub table_fault : ℕ → FaultCode
table_fault number = record { number = number; layer = 2; place = 0 }

abbrev pub number : Refusal → ℕ
number TooManyLines = 9
number ShortTally = 14
number NoRoom = 13

abbrev pub code_of : Refusal → FaultCode
code_of refusal = table_fault (number refusal)

abbrev pub refusal_text : Refusal → List ℕ
refusal_text TooManyLines = codes "there are too many lines"
refusal_text ShortTally = codes "the tally is too short"
refusal_text NoRoom = codes "the area is too small"
