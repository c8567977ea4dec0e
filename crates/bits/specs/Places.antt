-- The twelve places of a set of bits.
--     places      what they hold, in use or free
--     bits_in     the bits of those in use
--     Sound       what a set promises of its places
--     places_of   the places that hold a list of bits
-- Assumes nothing.
use Rattle.std.specs.Prelude.{◌≡◌, ℕ, ◌<◌, ◌≤◌, List, [], ◌∷◌, length, take, slice_index, slice_index_or}
use Rattle.bits.specs.declared.set.Bits.TheInside.{Inside}
use Rattle.bits.specs.Chosen.{IsBits}

-- the twelve places, in use or free
abbrev pub places : Inside → List ℕ
places s = s.b0 ∷ s.b1 ∷ s.b2 ∷ s.b3 ∷ s.b4 ∷ s.b5 ∷ s.b6 ∷ s.b7 ∷ s.b8 ∷ s.b9 ∷ s.b10 ∷ s.b11 ∷ []

-- the bits of the places in use
abbrev pub bits_in : Inside → List ℕ
bits_in s = take s.count (places s)

-- at most twelve are in use, by a set of bits; a free one holds 1,024
pub record Sound (used : ℕ) (held : List ℕ) : Type 0 where
  pub few : used ≤ 12
  pub bits : IsBits (take used held)
  pub free : (k : ℕ) → used ≤ k → k < 12 → slice_index held k ≡ 1024

-- what the places of each set promise
abbrev pub IsSound : Inside → Type 0
IsSound s = Sound s.count (places s)

-- the bit at a place, or 1,024 where there is none
abbrev pub held_at : List ℕ → ℕ → ℕ
held_at bits place = slice_index_or bits place 1024

-- the places that hold a list of bits
abbrev pub places_of : List ℕ → Inside
places_of bits = record {
  count = length bits;
  b0 = held_at bits 0;
  b1 = held_at bits 1;
  b2 = held_at bits 2;
  b3 = held_at bits 3;
  b4 = held_at bits 4;
  b5 = held_at bits 5;
  b6 = held_at bits 6;
  b7 = held_at bits 7;
  b8 = held_at bits 8;
  b9 = held_at bits 9;
  b10 = held_at bits 10;
  b11 = held_at bits 11;
}
