-- The places of a set, and the list of its bits, tell the same.
-- Proofs alone, which the code names: nothing here has to be believed.
use Rattle.std.proofs.Common.{◌≡◌, ℕ, ◌<◌, List, length, get_or, take, ◌∙◌, sym, refl, inl, inr, arith, length-take, get_or-take}
use Rattle.std.proofs.lemmas.Bool.{cases_lt}
use Rattle.std.proofs.lemmas.List.{get_or_default, get_or_past}
use Rattle.bits.specs.declared.set.Bits.TheInside.{Inside}
use Rattle.bits.specs.Places.{places, bits_in, Sound, IsSound, held_at, places_of}

-- as many bits as places in use
pub length-used : (n : ℕ) (l : List ℕ) → length l ≡ 12 → Sound n l → length (take n l) ≡ n
length-used n l twelve sound = omega (arith, length-take n l, sound.few)

-- a list of bits tells what each place holds
pub held_at-used : (n : ℕ) (l : List ℕ) → length l ≡ 12 → Sound n l → (k : ℕ) → k < 12 → held_at (take n l) k ≡ get_or l k 0
held_at-used n l twelve sound k lt =
    elim (cases_lt k n) [
      | inl used ↦ get_or-take n l k 1024 used ∙ get_or_default l k 1024 0 (omega arith)
      | inr free ↦ get_or_past (take n l) k 1024 (omega (arith, length-used n l twelve sound)) ∙ sym (sound.free k free lt)
    ]

-- the list of a set's bits gives its places back
pub places_of-bits_in : (s : Inside) → IsSound s → places_of (bits_in s) ≡ s
places_of-bits_in s sound i =
    let at : (k : ℕ) → k < 12 → held_at (bits_in s) k ≡ get_or (places s) k 0 = held_at-used s.count (places s) refl sound in
    record {
      count = length-used s.count (places s) refl sound i;
      b0 = at 0 (omega arith) i;
      b1 = at 1 (omega arith) i;
      b2 = at 2 (omega arith) i;
      b3 = at 3 (omega arith) i;
      b4 = at 4 (omega arith) i;
      b5 = at 5 (omega arith) i;
      b6 = at 6 (omega arith) i;
      b7 = at 7 (omega arith) i;
      b8 = at 8 (omega arith) i;
      b9 = at 9 (omega arith) i;
      b10 = at 10 (omega arith) i;
      b11 = at 11 (omega arith) i;
    }
