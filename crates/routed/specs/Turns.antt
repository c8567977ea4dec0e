-- What the two ends of a range tell of the values that its ports have. No public contract names these words.
--     Turns      the ends differ first at the place `top`, where the low one has 0 and the high one 1; of the digits behind,
--                the low one's are `over` below only ones, and the high one's are `under`
--     own        of some values, those at the bits of a sixteen, counted from its first
--     marks      what the bits of some values are worth together, as digits of a port
--     weight     what those bits are worth together that have a value
--     ones       that number's digits below a place: those that have to be 1 make the least number that has the values, and those that
--                have to be 0 tell how far the largest is below only ones
--     most       of cells, the largest number that digits of a sixteen below a size make in the ports up to an end
--     either     one of two answers, or both
-- Assumes nothing.
use Rattle.std.specs.Prelude.{◌≡◌, ℕ, suc, ◌%◌, ◌+◌, ◌-◌, ◌*◌, ◌^◌, ◌<◌, ◌&&◌, ◌||◌, Bool, if◌then◌else◌, List, [], ◌∷◌, length, min, nat_le, nat_lt}
use Rattle.std.specs.Bool.{beq}
use Rattle.bits.specs.Sixteens.{worth}
use Rattle.kinds.specs.Values.{weigh}
use Rattle.kinds.specs.Fields.{within, beyond}

pub record Turns (low high top over under : ℕ) : Type 0 where
  pub front : ℕ
  pub low_is : low + over + 1 ≡ front * 2 ^ suc top + 2 ^ top
  pub high_is : high ≡ front * 2 ^ suc top + 2 ^ top + under
  pub over_few : over < 2 ^ top
  pub under_few : under < 2 ^ top

abbrev pub own : (k : ℕ) → List (ℕ × Bool) → List (ℕ × Bool)
own k asked = within 16 (beyond (16 * k) asked)

abbrev pub marks : List (ℕ × Bool) → ℕ
marks [] = 0
marks (a ∷ asked) = 2 ^ (15 - a.0) + marks asked

abbrev pub weight : Bool → List (ℕ × Bool) → ℕ
weight v [] = 0
weight v (a ∷ asked) = weigh (beq v a.1) (15 - a.0) + weight v asked

abbrev pub ones : (below : ℕ) → Bool → List (ℕ × Bool) → ℕ
ones below v asked = weight v asked % 2 ^ below

-- a digit that the end has, too, is a one, and behind it are the end's digits, or only ones where it has more
abbrev pub most : (k size end : ℕ) → List ℕ → ℕ
most k size end [] = 0
most k size end (b ∷ bs) =
    let digit = worth k b in
    if nat_lt 0 digit && (nat_lt digit size && nat_le digit end) then 2 ^ length bs + most k size (min (end - digit) (digit - 1)) bs else most k size end bs

abbrev pub either : (around : Bool) (down up : Bool) → Bool
either around down up = if around then down || up else down && up
