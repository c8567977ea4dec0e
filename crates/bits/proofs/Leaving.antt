-- A bit leaves a rising list: from that bit on, each place takes what the next one holds.
use Rattle.std.proofs.Common.{◌≡◌, ℕ, zero, suc, ◌-◌, ◌<◌, ◌≤◌, true, cond, ltb, List, [], ◌∷◌, length, get_or, take, refl, sym, ap, ◌∙◌, inl, inr, arith, length-take, get_or-take}
use Rattle.std.proofs.lemmas.Bool.{cases_eq, cases_lt, eq-eqb, le-ltb}
use Rattle.std.proofs.lemmas.Bool.Decides.{nat_tests}
use Rattle.std.proofs.lemmas.List.{get_or_default, get_or_past}
use Rattle.bits.specs.Chosen.{joins}
use Rattle.bits.specs.declared.set.Bits.TheInside.{Inside}
use Rattle.bits.specs.Places.{places, bits_in, Sound, IsSound}
use Rattle.bits.specs.PlacesLaw.{length-used}
use Rattle.bits.specs.Sets.{rising, member, without_bit}
use Rattle.bits.proofs.Places.{below, are_set}
use Rattle.bits.proofs.Rising.{rising_without}
use Rattle.bits.proofs.Members.{member_at, member_some, member_behind, member_last, member_without}

-- what the places hold after a bit has left
abbrev pub moved_up : ℕ → List ℕ → List ℕ
moved_up out [] = []
moved_up out (c ∷ cs) = cond (ltb c out) c (get_or cs 0 1024) ∷ moved_up out cs

-- a place keeps a number below that bit, and else takes the next
get_or-moved_up : (out k : ℕ) (l : List ℕ) → k < length l → get_or (moved_up out l) k 0 ≡ cond (ltb (get_or l k 0) out) (get_or l k 0) (get_or l (suc k) 1024)
get_or-moved_up out k [] lt = absurd (omega arith)
get_or-moved_up out zero (c ∷ cs) lt = refl
get_or-moved_up out (suc k) (c ∷ cs) lt = get_or-moved_up out k cs (omega arith)

-- behind the bit that leaves, all moves by one place
take_behind : (n out : ℕ) (l : List ℕ) → n < length l → ((k : ℕ) → k ≤ n → out ≤ get_or l k 0) → get_or l 0 1024 ∷ take n (moved_up out l) ≡ take (suc n) l
take_behind n out [] lt high = absurd (omega arith)
take_behind zero out (c ∷ cs) lt high = refl
take_behind (suc n) out (c ∷ cs) lt high =
    let stays = le-ltb c out (high 0 (omega arith)) in
    ap (λ (ds : List ℕ). c ∷ ds) (rw stays (take_behind n out cs (omega arith) (λ k h. high (suc k) (omega arith))))

-- each later number of a rising list lies above its first
above_first : (n c : ℕ) (cs : List ℕ) → n < length cs → rising (c ∷ take (suc n) cs) ≡ true → (k : ℕ) → k ≤ n → c < get_or cs k 0
above_first n c cs lt r k h =
    member_behind (get_or cs k 0) c (take (suc n) cs) r
    (member_at (get_or cs k 0) (take (suc n) cs) k (omega (arith, length-take (suc n) cs)) (get_or-take (suc n) cs k 0 (omega arith)))

-- the places in use but one hold the list without the bit
take-moved_up : (n out : ℕ) (l : List ℕ) → n < length l → rising (take (suc n) l) ≡ true → member out (take (suc n) l) ≡ true → take n (moved_up out l) ≡ without_bit out (take (suc n) l)
take-moved_up n out [] lt r m = absurd (omega arith)
take-moved_up zero out (c ∷ cs) lt r m = grind (arith, nat_tests)
take-moved_up (suc n) out (c ∷ cs) lt r m =
    let up : rising (take (suc n) cs) ≡ true = grind (arith, nat_tests) in
    elim (cases_eq out c) [
      | inl p ↦ rw (eq-eqb out c p, le-ltb c out (omega arith)) (take_behind n out cs (omega arith) (λ k h. omega (arith, above_first n c cs (omega arith) r k h)))
      | inr ne ↦ grind (arith, nat_tests, member_behind out c (take (suc n) cs) r, take-moved_up n out cs (omega arith) up)
    ]

-- what may join a set may join it still as another bit leaves
pub joins_without : (b out : ℕ) (l : List ℕ) → joins b l ≡ true → joins b (without_bit out l) ≡ true
joins_without b out l j =
    let still = member_without b out l (grind (arith, nat_tests)) in
    grind (arith, nat_tests)

-- a free place, or one past the last
free_from : (s : Inside) → IsSound s → (k : ℕ) → s.count ≤ k → get_or (places s) k 1024 ≡ 1024
free_from s sound k le = elim (cases_lt k 12) [ inl p ↦ get_or_default (places s) k 1024 0 p ∙ sound.free k le p | inr p ↦ get_or_past (places s) k 1024 p ]

-- the places of a set that one of its bits has left
module _ (s : Inside) (out : ℕ) (bits after : List ℕ) (view_is : bits_in s ≡ bits) (sound : IsSound s) (is : after ≡ moved_up out (places s)) (has : member out bits ≡ true) where
  counted : suc (s.count - 1) ≡ s.count
  counted = omega (arith, ap length view_is, length-used s.count (places s) refl sound, member_some out bits has)

  whole : take (suc (s.count - 1)) (places s) ≡ bits
  whole = ap (λ (n : ℕ). take n (places s)) counted ∙ view_is

  used_below : (k : ℕ) → k < s.count → get_or (places s) k 0 < 1024
  used_below = below s.count (places s) refl sound

  rises : rising bits ≡ true
  rises = ap rising (sym view_is) ∙ sound.bits.rises

  pub bits_parted : take (s.count - 1) after ≡ without_bit out bits
  bits_parted =
      ap (λ (l : List ℕ). take (s.count - 1) l) is
      ∙ take-moved_up (s.count - 1) out (places s) (omega (arith, counted, sound.few)) (ap rising whole ∙ rises) (ap (member out) whole ∙ has)
      ∙ ap (without_bit out) whole

  at_parted : (k : ℕ) → k < 12 → get_or after k 0 ≡ cond (ltb (get_or (places s) k 0) out) (get_or (places s) k 0) (get_or (places s) (suc k) 1024)
  at_parted k p = rw is (get_or-moved_up out k (places s) p)

  below_parted : (k : ℕ) → k < s.count - 1 → get_or after k 0 < 1024
  below_parted k p =
      let here = used_below k (omega arith) in
      let next = used_below (suc k) (omega (arith, counted)) in
      let same : get_or (places s) (suc k) 1024 ≡ get_or (places s) (suc k) 0 = get_or_default (places s) (suc k) 1024 0 (omega (arith, counted, sound.few)) in
      rw (at_parted k (omega (arith, counted, sound.few))) (grind (arith, nat_tests))

  free_parted : (k : ℕ) → s.count - 1 ≤ k → k < 12 → get_or after k 0 ≡ 1024
  free_parted k p q =
      let next = free_from s sound (suc k) (omega (arith, counted)) in
      let last = member_last out (s.count - 1) (places s) (omega (arith, counted, sound.few)) (ap rising whole ∙ rises) (ap (member out) whole ∙ has) in
      elim (cases_lt k s.count) [
        | inl lt ↦ (let here : s.count - 1 ≡ k = omega arith in let high = rw here at last in rw (at_parted k q) (grind (arith, nat_tests)))
        | inr ge ↦ (let here = sound.free k ge q in rw (at_parted k q) (grind (arith, nat_tests)))
      ]

  pub parted_sound : Sound (s.count - 1) after
  parted_sound = record {
    few = omega (arith, sound.few);
    bits = are_set (s.count - 1) after (ap length is) (omega (arith, sound.few)) (ap rising bits_parted ∙ rising_without out bits rises) below_parted;
    free = free_parted;
  }
