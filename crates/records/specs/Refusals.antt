-- How the refusals of records are told.
--     number, code_of   the number of a refusal; its number, layer and place
--     refusal_text      how a refusal is printed in words
-- Assumes nothing.
use Rattle.std.specs.Prelude.{ℕ, List, codes}
use Rattle.kinds.specs.declared.code.FaultCode.{FaultCode}
use Rattle.records.specs.declared.refusal.Refusal.{Refusal}
use Rattle.records.specs.declared.refusal.Refusal.TheVariants.{CutOff, UnknownKind, BodyLength}

abbrev pub number : Refusal → ℕ
number CutOff = 16
number UnknownKind = 17
number BodyLength = 18

abbrev pub code_of : Refusal → FaultCode
code_of refusal = record { number = number refusal; layer = 3; place = 0 }

abbrev pub refusal_text : Refusal → List ℕ
refusal_text CutOff = codes "the job ends inside the record"
refusal_text UnknownKind = codes "the kind is unknown"
refusal_text BodyLength = codes "the body is of another length than its kind has"
