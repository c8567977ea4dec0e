-- The best bit among those below a number, one number at a time.
use Rattle.std.proofs.Common.{◌≡◌, ℕ, ◌+◌, ◌<◌, ◌≤◌, List, Some, None, Option, sym, ap, ◌∙◌, subst, inl, inr, arith}
use Rattle.std.proofs.lemmas.Bool.{cases_lt, cases_eq, lt-ltb, le-ltb}
use Rattle.bits.specs.Sets.{with_bit}
use Rattle.choice.specs.Growth.{Addable}
use Rattle.choice.specs.Offers.{cheaper_of, Leads, IsBest}
use Rattle.choice.specs.declared.search.Offer.{Offer}

module _ (Fits : List ℕ → Type 0) (cost : List ℕ → ℕ) (bits : List ℕ) (n : ℕ) where
  later : (b : ℕ) → Addable Fits n bits b → Addable Fits (n + 1) bits b
  later b add = record { below = omega (arith, add.below); free = add.free; fits = add.fits }

  -- what holds of the bits below the number, and of the number itself
  widened : (P : ℕ → Type 0) → ((b : ℕ) → Addable Fits n bits b → P b) → (Addable Fits (n + 1) bits n → P n) → (b : ℕ) → Addable Fits (n + 1) bits b → P b
  widened P before here b add = elim (cases_eq b n) [
    | inl p ↦ subst P (sym p) (here (subst (Addable Fits (n + 1) bits) p add))
    | inr other ↦ before b (record { below = omega (arith, add.below); free = add.free; fits = add.fits })
  ]

  -- the number leads: it costs less than each bit below it
  leads_now : (offer : Offer) → offer.bits ≡ with_bit n bits → offer.cost ≡ cost offer.bits → Addable Fits (n + 1) bits n → ((b : ℕ) → Addable Fits n bits b → cost (with_bit n bits) < cost (with_bit b bits)) → Leads Fits cost (n + 1) bits offer
  leads_now offer set costed add above = record {
    bit = n;
    set = set;
    costed = costed;
    best = record {
      addable = add;
      least = widened (λ b. cost (with_bit n bits) ≤ cost (with_bit b bits)) (λ b more. omega (arith, above b more)) (λ _. omega arith);
      lowest = widened (λ b. cost (with_bit b bits) ≡ cost (with_bit n bits) → n ≤ b) (λ b more same. absurd (omega (arith, same, above b more))) (λ _ _. omega arith);
    };
  }

  -- the one that led leads still: the number costs as much or more, if it may be added
  leads_still : (offer : Offer) → (Addable Fits (n + 1) bits n → offer.cost ≤ cost (with_bit n bits)) → Leads Fits cost n bits offer → Leads Fits cost (n + 1) bits offer
  leads_still offer dear leads =
      let asked : offer.cost ≡ cost (with_bit leads.bit bits) = leads.costed ∙ ap cost leads.set in
      record {
        bit = leads.bit;
        set = leads.set;
        costed = leads.costed;
        best = record {
          addable = later leads.bit leads.best.addable;
          least = widened (λ b. cost (with_bit leads.bit bits) ≤ cost (with_bit b bits)) leads.best.least (λ add. omega (arith, asked, dear add));
          lowest = widened (λ b. cost (with_bit b bits) ≡ cost (with_bit leads.bit bits) → leads.bit ≤ b) leads.best.lowest (λ _ _. omega (arith, leads.best.addable.below));
        };
      }

  -- what the number offers: the set with it, or nothing where it may not be added
  abbrev pub Makes : Option Offer → Type 0
  Makes None = Addable Fits (n + 1) bits n → ⊥
  Makes (Some offer) = (offer.bits ≡ with_bit n bits) × (offer.cost ≡ cost offer.bits) × Addable Fits (n + 1) bits n

  pub turn : (best made : Option Offer) → Makes made → IsBest Fits cost n bits best → IsBest Fits cost (n + 1) bits (cheaper_of best made)
  turn None None never none = widened (λ b. ⊥) none never
  turn None (Some offer) (set, costed, add) none = leads_now offer set costed add (λ b more. absurd (none b more))
  turn (Some one) None never leads = leads_still one (λ add. absurd (never add)) leads
  turn (Some one) (Some other) (set, costed, add) leads =
      let here : one.cost ≡ cost (with_bit leads.bit bits) = leads.costed ∙ ap cost leads.set in
      let there : other.cost ≡ cost (with_bit n bits) = costed ∙ ap cost set in
      elim (cases_lt other.cost one.cost) [
        | inl lt ↦ rw (lt-ltb other.cost one.cost lt) (leads_now other set costed add (λ b more. omega (arith, here, there, leads.best.least b more)))
        | inr le ↦ rw (le-ltb other.cost one.cost le) (leads_still one (λ _. omega (arith, there)) leads)
      ]
