-- What is known of every set that a choice reaches, and of one that settled.
use Rattle.std.proofs.Common.{◌≡◌, ℕ, ◌<◌, ◌≤◌, true, false, List, [], length, refl, ◌∙◌, inl, inr, ⊎_elim, arith}
use Rattle.std.proofs.lemmas.Bool.{cases_lt, cases_eq}
use Rattle.std.proofs.lemmas.Bool.Decides.{nat_tests}
use Rattle.std.proofs.lemmas.List.{get_or_default}
use Rattle.bits.specs.Sets.{member, with_bit, without_bit, exchanged}
use Rattle.bits.proofs.Lengths.{length_with, length_exchanged}
use Rattle.bits.proofs.Members.{member_with, member_left, member_without}
use Rattle.bits.proofs.Rising.{rising-with_bit, rising_without}
use Rattle.choice.specs.Growth.{is_free, Addable, Grown, full, stuck, no_gain, grow}
use Rattle.choice.specs.Evolution.{exchanges, exchange_at, Evolved, settled, stopped, taken}
use Rattle.choice.specs.Choice.{Reached, GoesThrough, no_bit, one_more, one_exchanged, Unbettered}
use Rattle.choice.specs.declared.choice.Outcome.{Outcome}
use Rattle.choice.specs.declared.choice.Outcome.TheVariants.{Settled}
use Rattle.choice.proofs.Exchanges.{all_exchanges, has_exchange}

module _ (Fits : List ℕ → Type 0) (cost : List ℕ → ℕ) (width most : ℕ) where
  pub reached_none : Fits [] → Reached Fits width most []
  reached_none fits = record { few = omega arith; rises = refl; below = λ b is. absurd (grind (arith, nat_tests)); fits = fits }

  pub reached_with : (bits : List ℕ) (b : ℕ) → Reached Fits width most bits → length bits < most → Addable Fits width bits b → Reached Fits width most (with_bit b bits)
  reached_with bits b r few add =
      let new : member b bits ≡ false = grind (arith, nat_tests, add.free) in
      record {
        few = omega (arith, length_with b bits);
        rises = rising-with_bit b bits r.rises new;
        below = λ c is. elim (cases_eq c b) [
          | inl p ↦ omega (arith, add.below)
          | inr n ↦ r.below c (grind (arith, nat_tests, member_with b c bits))
        ];
        fits = add.fits;
      }

  pub reached_exchanged : (bits : List ℕ) (out b : ℕ) → Reached Fits width most bits → member out bits ≡ true → b < width → is_free bits b ≡ true → Fits (exchanged bits out b) → Reached Fits width most (exchanged bits out b)
  reached_exchanged bits out b r has below free fits =
      let new : member b bits ≡ false = grind (arith, nat_tests) in
      let still : member b (without_bit out bits) ≡ false = member_without b out bits new in
      record {
        few = omega (arith, length_exchanged bits out b has, r.few);
        rises = rising-with_bit b (without_bit out bits) (rising_without out bits r.rises) still;
        below = λ c is. elim (cases_eq c b) [
          | inl p ↦ omega arith
          | inr n ↦ r.below c (grind (arith, nat_tests, member_with b c (without_bit out bits), member_left out c bits r.rises))
        ];
        fits = fits;
      }

  pub reached_at : (bits : List ℕ) (place : ℕ) → Reached Fits width most bits → place < length (exchanges width bits) → Fits (exchange_at width bits place) → Reached Fits width most (exchange_at width bits place)
  reached_at bits place r lt = all_exchanges width bits (λ set. Fits set → Reached Fits width most set) (λ out b. reached_exchanged bits out b r) place [] lt

  pub each_reached : {bits : List ℕ} → Fits [] → GoesThrough Fits cost width most bits → Reached Fits width most bits
  each_reached fits no_bit = reached_none fits
  each_reached fits (one_more {bits} way few b gains) = reached_with bits b (each_reached fits way) few gains.best.addable
  each_reached fits (one_exchanged {bits} way place first) = reached_at bits place (each_reached fits way) first.inside first.better.0

  pub grown_goes : {bits end : List ℕ} → GoesThrough Fits cost width most bits → Grown Fits cost width most bits end → GoesThrough Fits cost width most end
  grown_goes way (full _) = way
  grown_goes way (stuck _ _) = way
  grown_goes way (no_gain _ _ _ _) = way
  grown_goes way (grow few b gains more) = grown_goes (one_more way few b gains) more

  pub evolved_goes : {bits : List ℕ} {left : ℕ} {end : List ℕ} {used : ℕ} {outcome : Outcome} → GoesThrough Fits cost width most bits → Evolved Fits cost width bits left end used outcome → GoesThrough Fits cost width most end
  evolved_goes way (settled _ _) = way
  evolved_goes way (stopped _ _) = way
  evolved_goes way (taken place _ first on) = evolved_goes (one_exchanged way place first) on

module _ (Fits : List ℕ → Type 0) (cost : List ℕ → ℕ) (width : ℕ) where
  -- a settled set is bettered by no exchange
  pub evolved_unbettered : {bits : List ℕ} {left : ℕ} {end : List ℕ} {used : ℕ} {outcome : Outcome} → Evolved Fits cost width bits left end used outcome → outcome ≡ Settled → Unbettered Fits cost width end
  evolved_unbettered (settled {bits} _ none) is out b has below new fits =
      let found = has_exchange width bits out b has below new in
      let at : exchange_at width bits found.0 ≡ exchanged bits out b = get_or_default (exchanges width bits) found.0 [] (exchanged bits out b) found.1 ∙ found.2 in
      ⊎_elim (λ less. absurd (none found.0 found.1 (rw at (fits, less)))) (λ le. le) (cases_lt (cost (exchanged bits out b)) (cost bits))
  evolved_unbettered (stopped _ _) is out b has below new fits = absurd (grind (arith, is))
  evolved_unbettered (taken _ _ _ on) is out b has below new fits = evolved_unbettered on is out b has below new fits

  pub evolved_few : {bits : List ℕ} {left : ℕ} {end : List ℕ} {used : ℕ} {outcome : Outcome} → Evolved Fits cost width bits left end used outcome → used ≤ left
  evolved_few (settled le _) = le
  evolved_few (stopped _ _) = omega arith
  evolved_few (taken place lt _ on) = omega (arith, evolved_few on)
