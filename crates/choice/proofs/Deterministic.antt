-- A choice ends in one way only: the same set, after as many tries, settled or stopped.
use Rattle.std.proofs.Common.{◌≡◌, ℕ, ◌+◌, ◌-◌, List, refl, sym, ap, subst, ⊎_elim, arith}
use Rattle.std.proofs.lemmas.Bool.{cases_order}
use Rattle.choice.specs.Growth.{Best, Grown, full, stuck, no_gain, grow}
use Rattle.choice.specs.Evolution.{exchange_at, FirstBetter, Evolved, settled, stopped, taken}
use Rattle.choice.specs.Choice.{Chosen}
use Rattle.choice.specs.declared.choice.Outcome.{Outcome}
use Rattle.bits.specs.Sets.{with_bit}

module _ (Fits : List ℕ → Type 0) (cost : List ℕ → ℕ) (width : ℕ) where
  best_one : (bits : List ℕ) (b c : ℕ) → Best Fits cost width bits b → Best Fits cost width bits c → b ≡ c
  best_one bits b c p q =
      let up = p.least c q.addable in
      let down = q.least b p.addable in
      let one : cost (with_bit c bits) ≡ cost (with_bit b bits) = omega arith in
      omega (arith, p.lowest c q.addable one, q.lowest b p.addable (sym one))

  pub grown_one : (most : ℕ) {bits end other : List ℕ} → Grown Fits cost width most bits end → Grown Fits cost width most bits other → end ≡ other
  grown_one most (full f) (full g) = refl
  grown_one most (full f) (stuck g _) = absurd (omega arith)
  grown_one most (full f) (no_gain g _ _ _) = absurd (omega arith)
  grown_one most (full f) (grow g _ _ _) = absurd (omega arith)
  grown_one most (stuck f none) (full g) = absurd (omega arith)
  grown_one most (stuck f none) (stuck g _) = refl
  grown_one most (stuck f none) (no_gain g _ _ _) = refl
  grown_one most (stuck f none) (grow g c q _) = absurd (none c q.best.addable)
  grown_one most (no_gain f b p gain) (full g) = absurd (omega arith)
  grown_one most (no_gain f b p gain) (stuck g _) = refl
  grown_one most (no_gain f b p gain) (no_gain g _ _ _) = refl
  grown_one most (no_gain {bits} f b p gain) (grow g c q _) = absurd (let e = ap (λ x. cost (with_bit x bits)) (best_one bits b c p q.best) in omega (arith, q.less))
  grown_one most (grow f b p more) (full g) = absurd (omega arith)
  grown_one most (grow f b p more) (stuck g none) = absurd (none b p.best.addable)
  grown_one most (grow {bits} f b p more) (no_gain g c q gain) = absurd (let e = ap (λ x. cost (with_bit x bits)) (best_one bits b c p.best q) in omega (arith, p.less))
  grown_one most {other = o} (grow {bits} f b p more) (grow g c q again) = grown_one most more (subst (λ x. Grown Fits cost width most (with_bit x bits) o) (best_one bits c b q.best p.best) again)

  -- the first place that passes is one place
  same_place : (bits : List ℕ) (i j : ℕ) → FirstBetter Fits cost width bits i → FirstBetter Fits cost width bits j → i ≡ j
  same_place bits i j p q = ⊎_elim (λ e. e) (⊎_elim (λ lt. absurd (q.before i lt p.better)) (λ gt. absurd (p.before j gt q.better))) (cases_order i j)

  pub evolved_one : {bits : List ℕ} {left : ℕ} {end other : List ℕ} {used more : ℕ} {s t : Outcome} → Evolved Fits cost width bits left end used s → Evolved Fits cost width bits left other more t → (other ≡ end) × (more ≡ used) × (t ≡ s)
  evolved_one (settled f none) (settled g _) = (refl, refl, refl)
  evolved_one (settled f none) (stopped g _) = absurd (omega arith)
  evolved_one (settled f none) (taken place _ first _) = absurd (none place first.inside first.better)
  evolved_one (stopped f none) (settled g _) = absurd (omega arith)
  evolved_one (stopped f none) (stopped g _) = (refl, refl, refl)
  evolved_one (stopped f none) (taken place early first _) = absurd (none place early first.better)
  evolved_one (taken place _ first _) (settled g none) = absurd (none place first.inside first.better)
  evolved_one (taken place early first _) (stopped g none) = absurd (none place early first.better)
  evolved_one (taken {bits} {left = left} place _ first on) (taken {end = o} {used = u} {outcome = t} place' _ first' on') =
      let e : place' ≡ place = same_place bits place' place first' first in
      let r = evolved_one on (subst (λ x. Evolved Fits cost width (exchange_at width bits x) (left - (x + 1)) o u t) e on') in
      (r.0, omega (arith, r.1), r.2)

  pub chosen_one : (most tries : ℕ) (end other : List ℕ) (used more : ℕ) (s t : Outcome) → Chosen Fits cost width most tries end used s → Chosen Fits cost width most tries other more t → (other ≡ end) × (more ≡ used) × (t ≡ s)
  chosen_one most tries end other used more s t c d = evolved_one c.evolves (subst (λ x. Evolved Fits cost width x tries other more t) (grown_one most d.grows c.grows) d.evolves)
