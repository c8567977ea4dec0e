-- Sets of bits as rising lists.
--     below_first   a number lies below the first of a list
--     rising        each number lies above the one before it
--     member        whether a bit is in a set
--     with_bit      the set with one bit more, in its place
--     without_bit   the set without one bit
--     exchanged     the set with one bit out and another in
-- Assumes nothing.
use Rattle.std.specs.Prelude.{ℕ, Bool, true, false, if◌then◌else◌, ◌&&◌, List, [], ◌∷◌, ◌==◌, nat_lt}

-- whether a number lies below the first of a list, if there is one
abbrev pub below_first : ℕ → List ℕ → Bool
below_first b [] = true
below_first b (c ∷ cs) = nat_lt b c

-- whether each number lies above the one before it
abbrev pub rising : List ℕ → Bool
rising [] = true
rising (b ∷ bs) = below_first b bs && rising bs

-- whether a bit is in a set
abbrev pub member : ℕ → List ℕ → Bool
member b [] = false
member b (c ∷ cs) = if b == c then true else member b cs

-- the set with one bit more, in its place
abbrev pub with_bit : ℕ → List ℕ → List ℕ
with_bit b [] = b ∷ []
with_bit b (c ∷ cs) = if nat_lt b c then b ∷ c ∷ cs else c ∷ with_bit b cs

-- the set without one bit
abbrev pub without_bit : ℕ → List ℕ → List ℕ
without_bit b [] = []
without_bit b (c ∷ cs) = if b == c then cs else c ∷ without_bit b cs

-- the set with one bit out and another in
abbrev pub exchanged : List ℕ → ℕ → ℕ → List ℕ
exchanged bits out b = with_bit b (without_bit out bits)
