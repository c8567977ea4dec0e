-- How going through sets ends, each of them with its try.
use Rattle.std.proofs.Common.{Option, ◌≡◌, ℕ, zero, suc, ◌+◌, ◌-◌, ◌<◌, List, [], ◌∷◌, length, get_or, refl, inl, inr, arith}
use Rattle.std.specs.declared.ops.ControlFlow.{ControlFlow}
use Rattle.std.specs.declared.ops.ControlFlow.TheVariants.{Continue, Break}
use Rattle.std.proofs.lemmas.Bool.{cases_lt, cases_eq, eq-eqb, ne_eqb, lt-ltb, le-ltb}
use Rattle.kinds.specs.Meaning.{Meaning}
use Rattle.blocks.specs.Blocks.{table_size}
use Rattle.choice.specs.Choice.{FitsIn, cost_in}
use Rattle.choice.specs.Offers.{offer_of}
use Rattle.choice.specs.Tries.{going_on, after_try, tries_of}
use Rattle.choice.specs.declared.search.Offer.{Offer}
use Rattle.choice.specs.declared.evolve.Ended.{Ended}
use Rattle.choice.specs.declared.evolve.Ended.TheVariants.{Taken, Spent}

module _ {Header Rule Row : Type 0} (k : Meaning Header Rule Row) (rules : List (Option Rule)) (room : ℕ) (judge : List ℕ → ℕ) (price : ℕ) where
  -- it would be taken
  abbrev pub Taking : List ℕ → Type 0
  Taking set = FitsIn k rules room set × (cost_in k rules judge set < price)

  -- the first so many of some sets would not
  abbrev pub NoTaking : List (List ℕ) → ℕ → Type 0
  NoTaking sets first = (place : ℕ) → place < first → Taking (get_or sets place []) → ⊥

  -- the set at a place is taken, and so many tries are left
  pub record TakenAt (sets : List (List ℕ)) (left : ℕ) (next : Offer) (now : ℕ) : Type 0 where
    pub place : ℕ
    pub inside : place < length sets
    pub tries : left ≡ place + 1 + now
    pub before : NoTaking sets place
    pub is : next.bits ≡ get_or sets place []
    pub costed : next.cost ≡ cost_in k rules judge next.bits
    pub takes : Taking (get_or sets place [])

  -- what each way to end means
  abbrev pub EndsBy : List (List ℕ) → ℕ → ControlFlow Ended ℕ → Type 0
  EndsBy sets left (Continue now) = (left ≡ length sets + now) × NoTaking sets (length sets)
  EndsBy sets left (Break Spent) = (left < length sets) × NoTaking sets left
  EndsBy sets left (Break (Taken next now)) = TakenAt sets left next now

  none_more : (set : List ℕ) (sets : List (List ℕ)) (first more : ℕ) → more ≡ first + 1 → (Taking set → ⊥) → NoTaking sets first → NoTaking (set ∷ sets) more
  none_more set sets first more is here behind zero lt = here
  none_more set sets first more is here behind (suc place) lt = behind place (omega arith)

  one_more : (set : List ℕ) (sets : List (List ℕ)) (left : ℕ) (r : ControlFlow Ended ℕ) → 0 < left → (Taking set → ⊥) → EndsBy sets (left - 1) r → EndsBy (set ∷ sets) left r
  one_more set sets left (Continue now) some here (tries, none) = (omega arith, none_more set sets (length sets) (length (set ∷ sets)) (omega arith) here none)
  one_more set sets left (Break Spent) some here (tries, none) = (omega arith, none_more set sets (left - 1) left (omega arith) here none)
  one_more set sets left (Break (Taken next now)) some here at = record {
    place = suc at.place;
    inside = omega (arith, at.inside);
    tries = omega (arith, at.tries);
    before = none_more set sets at.place (suc at.place) (omega arith) here at.before;
    is = at.is;
    costed = at.costed;
    takes = at.takes;
  }

  -- one try: the set is taken, or it goes on behind it
  tried : (set : List ℕ) (sets : List (List ℕ)) (left : ℕ) → 0 < left → ((now : ℕ) → EndsBy sets now (tries_of (offer_of k rules room judge) price sets now)) → EndsBy (set ∷ sets) left (going_on (after_try (offer_of k rules room judge) price (offer_of k rules room judge set) (left - 1)) (λ now. tries_of (offer_of k rules room judge) price sets now))
  tried set sets left some behind =
      let size = table_size k rules set in
      let asked = cost_in k rules judge set in
      elim (cases_lt room size) [
        | inl over ↦ rw (lt-ltb room size over) (one_more set sets left _ some (λ takes. omega (arith, takes.0)) (behind (left - 1)))
        | inr fits ↦ elim (cases_lt asked price) [
          | inl less ↦ rw (le-ltb room size fits, lt-ltb asked price less) (record { place = 0; inside = omega arith; tries = omega arith; before = λ place lt. absurd (omega arith); is = refl; costed = refl; takes = (fits, less) })
          | inr dear ↦ rw (le-ltb room size fits, le-ltb asked price dear) (one_more set sets left _ some (λ takes. omega (arith, takes.1)) (behind (left - 1)))
        ]
      ]

  pub ends : (sets : List (List ℕ)) (left : ℕ) → EndsBy sets left (tries_of (offer_of k rules room judge) price sets left)
  ends [] left = (omega arith, λ place lt. absurd (omega arith))
  ends (set ∷ sets) left = elim (cases_eq left 0) [
    | inl none ↦ rw (eq-eqb left 0 none) (omega arith, λ place lt. absurd (omega arith))
    | inr some ↦ rw (ne_eqb left 0 some) (tried set sets left (omega arith) (ends sets))
  ]
