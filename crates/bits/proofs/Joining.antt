-- A bit joins a rising list: each place keeps the lesser of two numbers and hands on the larger.
use Rattle.std.proofs.Common.{◌≡◌, ℕ, zero, suc, ◌+◌, ◌<◌, ◌≤◌, min, max, true, List, [], ◌∷◌, length, get_or, take, refl, sym, ap, ◌∙◌, add-one, arith}
use Rattle.std.proofs.lemmas.Bool.Decides.{nat_tests}
use Rattle.bits.specs.Chosen.{joins}
use Rattle.bits.specs.declared.set.Bits.TheInside.{Inside}
use Rattle.bits.specs.Places.{places, bits_in, Sound, IsSound}
use Rattle.bits.specs.PlacesLaw.{length-used}
use Rattle.bits.specs.Sets.{rising, with_bit}
use Rattle.bits.proofs.Places.{below, are_set}
use Rattle.bits.proofs.Rising.{rising-with_bit}

-- what the places hold after a number has passed them
abbrev pub handed_on : ℕ → List ℕ → List ℕ
handed_on b [] = []
handed_on b (c ∷ cs) = min b c ∷ handed_on (max b c) cs

-- one place: the lesser stays, and the larger goes on
with_bit_min_max : (b c : ℕ) (cs : List ℕ) → rising (c ∷ cs) ≡ true → min b c ∷ with_bit (max b c) cs ≡ with_bit b (c ∷ cs)
with_bit_min_max b c [] r = grind (arith, nat_tests)
with_bit_min_max b c (d ∷ ds) r = grind (arith, nat_tests)

-- the places in use and one more hold the list with the bit
take-handed_on : (n b : ℕ) (l : List ℕ) → n < length l → rising (take n l) ≡ true → ((k : ℕ) → k < n → get_or l k 0 ≤ get_or l n 0) → b ≤ get_or l n 0 → take (suc n) (handed_on b l) ≡ with_bit b (take n l)
take-handed_on n b [] lt r low le = absurd (omega arith)
take-handed_on zero b (c ∷ cs) lt r low le = grind arith
take-handed_on (suc n) b (c ∷ cs) lt r low le =
    ap (λ (ds : List ℕ). min b c ∷ ds) (take-handed_on n (max b c) cs (omega arith) (grind (arith, nat_tests)) (λ k h. low (suc k) (omega arith)) (omega (arith, low 0 (omega arith))))
    ∙ with_bit_min_max b c (take n cs) r

-- the number that goes on is the mark of a free place at last
free_handed_on : (mark n b k : ℕ) (l : List ℕ) → n ≤ k → k < length l → b ≤ mark → (n ≡ k → b ≡ mark) → ((j : ℕ) → n ≤ j → j < length l → get_or l j 0 ≡ mark) → ((j : ℕ) → j < n → get_or l j 0 ≤ mark) → get_or (handed_on b l) k 0 ≡ mark
free_handed_on mark n b k [] le inside low last free used = absurd (omega arith)
free_handed_on mark n b zero (c ∷ cs) le inside low last free used = omega (arith, last (omega arith), free 0 (omega arith) (omega arith))
free_handed_on mark zero b (suc k) (c ∷ cs) le inside low last free used =
    let here = free 0 (omega arith) (omega arith) in
    free_handed_on mark zero (max b c) k cs (omega arith) (omega arith) (omega arith) (λ e. omega arith) (λ j p q. free (suc j) (omega arith) (omega arith)) (λ j p. absurd (omega arith))
free_handed_on mark (suc n) b (suc k) (c ∷ cs) le inside low last free used =
    let here = used 0 (omega arith) in
    free_handed_on mark n (max b c) k cs (omega arith) (omega arith) (omega arith) (λ e. omega (arith, last (omega arith))) (λ j p q. free (suc j) (omega arith) (omega arith)) (λ j p. used (suc j) (omega arith))

-- a place in use holds a number below the mark
below_handed_on : (mark n b k : ℕ) (l : List ℕ) → k ≤ n → n < length l → b < mark → ((j : ℕ) → j < n → get_or l j 0 < mark) → get_or (handed_on b l) k 0 < mark
below_handed_on mark n b k [] le inside low used = absurd (omega arith)
below_handed_on mark n b zero (c ∷ cs) le inside low used = omega arith
below_handed_on mark zero b (suc k) (c ∷ cs) le inside low used = absurd (omega arith)
below_handed_on mark (suc n) b (suc k) (c ∷ cs) le inside low used =
    below_handed_on mark n (max b c) k cs (omega arith) (omega arith) (omega (arith, used 0 (omega arith))) (λ j p. used (suc j) (omega arith))

-- the places of a set that one more bit has joined
module _ (s : Inside) (b : ℕ) (bits after : List ℕ) (view_is : bits_in s ≡ bits) (sound : IsSound s) (is : after ≡ handed_on b (places s)) (room : length bits < 12) (new : joins b bits ≡ true) where
  inside : s.count < 12
  inside = omega (arith, ap length view_is, length-used s.count (places s) refl sound)

  low : b < 1024
  low = grind (arith, nat_tests)

  used_below : (k : ℕ) → k < s.count → get_or (places s) k 0 < 1024
  used_below = below s.count (places s) refl sound

  rises : rising bits ≡ true
  rises = ap rising (sym view_is) ∙ sound.bits.rises

  pub bits_joined : take (s.count + 1) after ≡ with_bit b bits
  bits_joined =
      let mark = sound.free s.count (omega arith) inside in
      ap (λ (l : List ℕ). take (s.count + 1) l) is
      ∙ ap (λ (n : ℕ). take n (handed_on b (places s))) (add-one s.count)
      ∙ take-handed_on s.count b (places s) inside sound.bits.rises (λ k p. omega (arith, used_below k p)) (omega (arith, low))
      ∙ ap (with_bit b) view_is

  rising_joined : rising (take (s.count + 1) after) ≡ true
  rising_joined = ap rising bits_joined ∙ rising-with_bit b bits rises (grind (arith, nat_tests))

  below_joined : (k : ℕ) → k < s.count + 1 → get_or after k 0 < 1024
  below_joined k p = rw is (below_handed_on 1024 s.count b k (places s) (omega arith) inside low used_below)

  free_joined : (k : ℕ) → s.count + 1 ≤ k → k < 12 → get_or after k 0 ≡ 1024
  free_joined k p q =
      rw is (free_handed_on 1024 s.count b k (places s) (omega arith) q (omega (arith, low)) (λ e. absurd (omega arith)) sound.free (λ j h. omega (arith, used_below j h)))

  pub joined_sound : Sound (s.count + 1) after
  joined_sound = record { few = omega (arith, inside); bits = are_set (s.count + 1) after (ap length is) (omega (arith, inside)) rising_joined below_joined; free = free_joined }
