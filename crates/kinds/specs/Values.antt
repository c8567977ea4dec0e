-- Values at some bits together, as pairs of a bit and its value.
--     with_values   some bits, each with a value
--     valued        some bits with the values that a number gives them, the first bit most significant
--     each          whether each of the values passes a test of its own
--     has           whether something that has a value at each bit has all of these
--     number_of     the number made of the values at some bits
--     Rises         each bit lies above the one before it, and the first is a number or above
--     AllBelow      each bit lies below a number
--     cells_of      of the numbers that give some bits their values, those that pass a test, in rising order
-- Assumes nothing.
use Rattle.std.specs.Prelude.{ℕ, ◌+◌, ◌^◌, ◌<◌, ◌≤◌, ⊤, Bool, true, if◌then◌else◌, ◌&&◌, List, [], ◌∷◌, map, length, filter}
use Rattle.std.specs.Bool.{beq}
use Rattle.std.specs.List.{AllByRecursion, range_with_len}
use Rattle.kinds.specs.Bits.{digit}

abbrev pub with_values : (ℕ → Bool) → List ℕ → List (ℕ × Bool)
with_values value bits = map (λ b. (b, value b)) bits

abbrev pub valued : List ℕ → ℕ → List (ℕ × Bool)
valued [] number = []
valued (b ∷ bs) number = (b, digit number (length bs)) ∷ valued bs number

abbrev pub each : (ℕ → Bool → Bool) → List (ℕ × Bool) → Bool
each test [] = true
each test (a ∷ asked) = test a.0 a.1 && each test asked

abbrev pub has : (ℕ → Bool) → List (ℕ × Bool) → Bool
has value asked = each (λ b v. beq v (value b)) asked

abbrev pub Rises : ℕ → List (ℕ × Bool) → Type 0
Rises from [] = ⊤
Rises from (a ∷ asked) = (from ≤ a.0) × Rises (a.0 + 1) asked

abbrev pub AllBelow : ℕ → List (ℕ × Bool) → Type 0
AllBelow width asked = AllByRecursion (λ a. a.0 < width) asked

-- what a bit's value adds to a number, with so many bits behind it
abbrev pub weigh : Bool → ℕ → ℕ
weigh value behind = if value then 2 ^ behind else 0

abbrev pub number_of : (ℕ → Bool) → List ℕ → ℕ
number_of value [] = 0
number_of value (b ∷ bs) = weigh (value b) (length bs) + number_of value bs

abbrev pub cells_of : (List (ℕ × Bool) → Bool) → List ℕ → List ℕ
cells_of test bits = filter (λ cell. test (valued bits cell)) (range_with_len 0 (2 ^ length bits))
