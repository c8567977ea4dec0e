-- How the refusals of books and tables are told.
--     of_table, of_choice   the refusals of the layers below, as a book tells them
--     at                    a fault: a refusal, and the line that the call was given, or 0
--     back                  a state that is handed back with its fault
--     told                  an answer whose refusal is told in another way
--     of_spoilt             an answer whose area was found spoilt, as a book tells it
--     number                the number of a refusal
--     code_of               the number, layer and place of a fault
--     refusal_text          how a refusal is printed in words
--     began                 whether a call that was refused so had begun to count
-- Assumes nothing.
use Rattle.std.specs.Prelude.{ℕ, Bool, true, false, List, Ok, Err, Result, codes}
use Rattle.kinds.specs.declared.code.FaultCode.{FaultCode}
use Rattle.blocks.specs.declared.refusal.Refusal.{Refusal as TableRefusal}
use Rattle.blocks.specs.declared.refusal.Refusal.TheVariants as blocks
use Rattle.choice.specs.declared.refusal.Refusal.{Refusal as ChoiceRefusal}
use Rattle.choice.specs.declared.refusal.Refusal.TheVariants as choice
use Rattle.layout.specs.declared.spoilt.Spoilt.{Spoilt}
use Rattle.table.specs.declared.refusal.Refusal.{Refusal}
use Rattle.table.specs.declared.refusal.Refusal.TheVariants.{LineCount, NoSuchLine, EmptyLine, TooMuchAsked, NoRoom, ShortTally, OtherMemory}
use Rattle.table.specs.declared.refusal.Fault.{Fault}
use Rattle.table.specs.declared.refusal.Refused.{Refused}

abbrev pub of_table : TableRefusal → Refusal
of_table blocks.TooManyLines = LineCount
of_table blocks.NoRoom = NoRoom
of_table blocks.ShortTally = ShortTally

abbrev pub of_choice : ChoiceRefusal → Refusal
of_choice choice.TooMuchAsked = TooMuchAsked
of_choice (choice.Table refusal) = of_table refusal

abbrev pub at : ℕ → Refusal → Fault
at line refusal = record { refusal = refusal; place = line }

abbrev pub back : {S : Type 0} → S → Refusal → Refused S
back state refusal = record { state = state; fault = at 0 refusal }

abbrev pub told : {A F G : Type 0} → (F → G) → Result A F → Result A G
told tell (Ok answer) = Ok answer
told tell (Err refusal) = Err (tell refusal)

abbrev pub of_spoilt : {A : Type 0} → Result A Spoilt → Result A Refusal
of_spoilt = told (λ _. OtherMemory)

abbrev pub number : Refusal → ℕ
number LineCount = 9
number NoSuchLine = 10
number EmptyLine = 11
number TooMuchAsked = 12
number NoRoom = 13
number ShortTally = 14
number OtherMemory = 15

abbrev pub code_of : Fault → FaultCode
code_of fault = record { number = number fault.refusal; layer = 2; place = fault.place }

abbrev pub refusal_text : Refusal → List ℕ
refusal_text LineCount = codes "a book has 1 to 16384 lines"
refusal_text NoSuchLine = codes "there is no such line"
refusal_text EmptyLine = codes "the line is empty"
refusal_text TooMuchAsked = codes "too many bits or tries are asked for"
refusal_text NoRoom = codes "the area is too small"
refusal_text ShortTally = codes "the tally is too short"
refusal_text OtherMemory = codes "lines or area are not the book's"

abbrev pub began : Refusal → Bool
began LineCount = false
began NoSuchLine = false
began EmptyLine = false
began TooMuchAsked = false
began NoRoom = true
began ShortTally = false
began OtherMemory = false
