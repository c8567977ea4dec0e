-- How the refusals of a choice are told: those of its own, and a table's as the table tells them.
--     code_of        number, layer and place
--     refusal_text   how it is printed in words
-- Assumes nothing.
use Rattle.std.specs.Prelude.{ℕ, List, codes}
use Rattle.kinds.specs.declared.code.FaultCode.{FaultCode}
use Rattle.blocks.specs.Faults.{table_fault, code_of as table_code_of, refusal_text as table_refusal_text}
use Rattle.choice.specs.declared.refusal.Refusal.{Refusal}
use Rattle.choice.specs.declared.refusal.Refusal.TheVariants.{TooMuchAsked, Table}

abbrev pub code_of : Refusal → FaultCode
code_of TooMuchAsked = table_fault 12
code_of (Table refusal) = table_code_of refusal

abbrev pub refusal_text : Refusal → List ℕ
refusal_text TooMuchAsked = codes "too many bits or tries are asked for"
refusal_text (Table refusal) = table_refusal_text refusal
