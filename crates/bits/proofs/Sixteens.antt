-- What bits are worth in a sixteen: few, nothing from the sixteen 64 on, and how it grows bit by bit.
use Rattle.std.proofs.Common.{◌≡◌, ◌≢◌, ℕ, Bool, true, false, ◌+◌, ◌-◌, ◌*◌, ◌/◌, ◌%◌, ◌^◌, ◌<◌, ◌≤◌, List, [], ◌∷◌, length, get_or, set, if◌then◌else◌, ◌==◌, refl, sym, ap, arith, pow_mono}
use Rattle.std.specs.List.{All}
use Rattle.std.proofs.Math.Decide.{ℕ_discrete}
use Rattle.std.proofs.lemmas.Bool.{ne_eqb, cond-false}
use Rattle.std.proofs.lemmas.List.{get_or-set_same, get_or-set_other}
use Rattle.std.proofs.lemmas.List.Elements.{All-head, All-tail}
use Rattle.bits.specs.Sixteens.{worth, sixteen}

worth_few : (k b : ℕ) → worth k b ≤ 65536
worth_few k b = either (b / 16 == k) (pow_mono {i = 15 - b % 16} {j = 16} (omega arith))
  where
    either : (t : Bool) → 2 ^ (15 - b % 16) ≤ 65536 → (if t then 2 ^ (15 - b % 16) else 0) ≤ 65536
    either true le = le
    either false le = omega arith

pub worth_other : (k b : ℕ) → b / 16 ≢ k → worth k b ≡ 0
worth_other k b other = cond-false (b / 16 == k) (2 ^ (15 - b % 16)) 0 (ne_eqb (b / 16) k other)

pub sixteen_few : (k : ℕ) (bits : List ℕ) → sixteen k bits ≤ 65536 * length bits
sixteen_few k [] = omega arith
sixteen_few k (b ∷ bits) = omega (arith, worth_few k b, sixteen_few k bits)

pub sixteen_none : (k : ℕ) (bits : List ℕ) → 64 ≤ k → All (λ b. b < 1024) bits → sixteen k bits ≡ 0
sixteen_none k [] far below = refl
sixteen_none k (b ∷ bits) far below =
    let first = All-head (λ b. b < 1024) b bits below in
    omega (arith, worth_other k b (λ e. omega arith), sixteen_none k bits far (All-tail (λ b. b < 1024) b bits below))

-- one bit more
pub joined : (k b : ℕ) (sixteens bits : List ℕ) (whole : ℕ) → b / 16 < length sixteens → get_or sixteens k 0 + sixteen k (b ∷ bits) ≡ whole → get_or (set sixteens (b / 16) (get_or sixteens (b / 16) 0 + worth (b / 16) b)) k 0 + sixteen k bits ≡ whole
joined k b sixteens bits whole inside e = by (ℕ_discrete k (b / 16))
  where
    by : Dec (k ≡ b / 16) → get_or (set sixteens (b / 16) (get_or sixteens (b / 16) 0 + worth (b / 16) b)) k 0 + sixteen k bits ≡ whole
    by (yes same) =
        omega (arith, e, ap (λ (j : ℕ). get_or (set sixteens (b / 16) (get_or sixteens (b / 16) 0 + worth (b / 16) b)) j 0) same, get_or-set_same sixteens (b / 16) (get_or sixteens (b / 16) 0 + worth (b / 16) b) 0 inside, ap (λ (j : ℕ). get_or sixteens j 0) same, ap (λ (j : ℕ). worth j b) same)
    by (no other) = omega (arith, e, get_or-set_other sixteens (b / 16) k (get_or sixteens (b / 16) 0 + worth (b / 16) b) 0 other, worth_other k b (λ e. other (sym e)))
