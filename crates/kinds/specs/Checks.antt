-- Checks that are made in order, each with the fault that it finds. Assumes nothing.
use Rattle.std.specs.Prelude.{◌≡◌, Bool, if◌then◌else◌, List, [], ◌∷◌, Ok, Err, Result}

-- the value where no check fails, else the fault of the first that does
abbrev pub checked : {F A : Type 0} → List (Bool × F) → A → Result A F
checked [] x = Ok x
checked (check ∷ checks) x = if check.0 then Err check.1 else checked checks x

-- a value read after another one: the first fault wins
infixr 20 ◌and_then◌
abbrev pub ◌and_then◌ : {A B F : Type 0} → Result A F → (A → Result B F) → Result B F
◌and_then◌ (Ok x) next = next x
◌and_then◌ (Err e) next = Err e

-- an answer that is made of what was read, or tells why nothing was read
abbrev pub MadeOf : {A B F : Type 0} → (A → B → Type 0) → Result A F → Result B F → Type 0
MadeOf Made (Ok x) (Ok y) = Made x y
MadeOf Made (Ok x) (Err told) = ⊥
MadeOf Made (Err fault) (Ok y) = ⊥
MadeOf Made (Err fault) (Err told) = told ≡ fault
