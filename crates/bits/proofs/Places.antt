-- What each place of a set holds, told by the list of its bits.
use Rattle.std.proofs.Common.{◌≡◌, ℕ, ◌<◌, ◌≤◌, true, List, length, take, get_or, sym, ap, refl, ◌∙◌, arith, length-take, get_or-take}
use Rattle.std.proofs.lemmas.List.{get_or_default}
use Rattle.bits.specs.Chosen.{IsBits}
use Rattle.bits.specs.declared.set.Bits.TheInside.{Inside}
use Rattle.bits.specs.Places.{places, bits_in, Sound, IsSound, held_at}
use Rattle.bits.specs.PlacesLaw.{length-used, held_at-used}
use Rattle.bits.specs.Sets.{rising}

-- what a list of bits tells of each place
pub held_at_place : (s : Inside) (bits : List ℕ) (k : ℕ) → IsSound s → bits_in s ≡ bits → k < 12 → get_or bits k 1024 ≡ get_or (places s) k 0
held_at_place s bits k sound view_is lt = ap (λ (l : List ℕ). held_at l k) (sym view_is) ∙ held_at-used s.count (places s) refl sound k lt

-- each place in use holds a bit below 1,024
pub below : (n : ℕ) (l : List ℕ) → length l ≡ 12 → Sound n l → (k : ℕ) → k < n → get_or l k 0 < 1024
below n l twelve sound k used = rw (← get_or-take n l k 0 used) (sound.bits.below k 0 (omega (arith, length-used n l twelve sound)))

-- rising places, each below 1,024, hold a set of bits
pub are_set : (n : ℕ) (l : List ℕ) → length l ≡ 12 → n ≤ 12 → rising (take n l) ≡ true → ((k : ℕ) → k < n → get_or l k 0 < 1024) → IsBits (take n l)
are_set n l twelve few rises low =
    let long : length (take n l) ≡ n = omega (arith, length-take n l) in
    record {
      few = omega (arith, long);
      rises = rises;
      below = λ k d lt.
          let used : k < n = omega (arith, long) in
          let same : get_or l k d ≡ get_or l k 0 = get_or_default l k d 0 (omega arith) in
          rw (get_or-take n l k d used, same) (low k used);
    }

-- the bits that the places in use hold are a set of bits
pub are_bits : (s : Inside) (bits : List ℕ) → IsSound s → bits ≡ bits_in s → IsBits bits
are_bits s bits sound same = rw same sound.bits
