-- Bits under a mask.
use Rattle.std.proofs.Common.{◌≡◌, ℕ, min, ◌-◌, ◌<◌, Bool, true, false, cond, ◌&&◌, eqb, sym, refl, ap, ◌∙◌, arith}
use mathlib.Core.Bool.{beq}
use Rattle.std.proofs.Math.Bool.{and-true}
use lib.Bits.{bit_and}
use Rattle.std.specs.Int.{bit_at}
use Rattle.std.proofs.lemmas.Nat.Bits.{bit_at_and}
use Rattle.std.proofs.lemmas.Bool.Decides.{nat_tests}
use Rattle.std.proofs.lemmas.Bool.{eqb-true}
use Rattle.kinds.specs.Bits.{digit, bit_of, mask_matches, mask_admits}

least_one : (u v : ℕ) → u < 2 → v < 2 → eqb (min u v) 1 ≡ (eqb u 1 && eqb v 1)
least_one u v p q = grind (arith, nat_tests)

pub digit_and : (a b place : ℕ) → digit (bit_and a b) place ≡ (digit a place && digit b place)
digit_and a b place = ap (λ (d : ℕ). eqb d 1) (bit_at_and a b place) ∙ least_one (bit_at a place) (bit_at b place) (omega arith) (omega arith)

-- a bit that is asked for under a test is admitted where the two agree
pub own_bit : (test bit own : Bool) → (test ≡ true → bit ≡ own) → cond test (beq bit own) true ≡ true
own_bit true true own e = ap (beq true) (sym (e refl))
own_bit true false own e = ap (beq false) (sym (e refl))
own_bit false bit own e = refl

-- a number that matches under a mask has, at each bit, a value that is admitted
pub mask_agrees : (width value mask n b : ℕ) → mask_matches value mask n ≡ true → mask_admits width value mask b (bit_of width n b) ≡ true
mask_agrees width value mask n b e =
    own_bit (bit_of width mask b) (bit_of width n b) (bit_of width value b) (λ t.
    sym (ap (λ (x : ℕ). bit_of width x b) (sym (eqb-true (bit_and n mask) value e)) ∙ digit_and n mask (width - 1 - b) ∙ ap (λ (t : Bool). bit_of width n b && t) t ∙ and-true (bit_of width n b)))
