-- One turn of the search for the best bit, and of growth.
use Rattle.std.proofs.Common.{◌≡◌, ℕ, ◌+◌, ◌^◌, ◌<◌, ◌≤◌, cond, List, length, Some, None, Option, refl, ap, subst, inl, inr, arith}
use Rattle.std.proofs.Math.Pow.{pow_mono}
use Rattle.std.proofs.lemmas.Bool.{cases_lt, cases_Bool, lt-ltb, le-ltb}
use Rattle.std.proofs.lemmas.Bool.Decides.{nat_tests}
use Rattle.bits.proofs.Lengths.{length_with}
use Rattle.bits.specs.Sets.{with_bit}
use Rattle.kinds.specs.Meaning.{Meaning}
use Rattle.blocks.specs.Blocks.{table_size}
use Rattle.choice.specs.Growth.{is_free, Grown, full, stuck, no_gain, grow}
use Rattle.choice.specs.Choice.{FitsIn, cost_in}
use Rattle.choice.specs.Offers.{offer_of, cheaper_of, IsBest}
use Rattle.choice.specs.declared.search.Offer.{Offer}
use Rattle.choice.proofs.Best.{Makes, turn}

module _ {Header Rule Row : Type 0} (k : Meaning Header Rule Row) (rules : List (Option Rule)) (room : ℕ) (judge : List ℕ → ℕ) where
  made : (bits : List ℕ) (n : ℕ) → Makes (FitsIn k rules room) (cost_in k rules judge) bits n (cond (is_free bits n) (offer_of k rules room judge (with_bit n bits)) None)
  made bits n = elim (cases_Bool (is_free bits n)) [
    | inl free ↦ elim (cases_lt room (table_size k rules (with_bit n bits))) [
      | inl over ↦ rw (free, lt-ltb room (table_size k rules (with_bit n bits)) over) (λ add. omega (arith, add.fits))
      | inr fits ↦ rw (free, le-ltb room (table_size k rules (with_bit n bits)) fits) (refl, refl, record { below = omega arith; free = free; fits = fits })
    ]
    | inr taken ↦ rw taken (λ add. grind (arith, nat_tests, add.free))
  ]

  pub best_turn : (bits : List ℕ) (n : ℕ) (best given next : Option Offer) → IsBest (FitsIn k rules room) (cost_in k rules judge) n bits best → given ≡ cond (is_free bits n) (offer_of k rules room judge (with_bit n bits)) None → next ≡ cheaper_of best given → IsBest (FitsIn k rules room) (cost_in k rules judge) (n + 1) bits next
  best_turn bits n best given next is e f = rw (f, e) (turn (FitsIn k rules room) (cost_in k rules judge) bits n best _ (made bits n) is)

module _ (Fits : List ℕ → Type 0) (cost : List ℕ → ℕ) (width : ℕ) where
  module _ (most : ℕ) (present : Offer) (costed : present.cost ≡ cost present.bits) (few : length present.bits < most) where
    pub grows : (next : Offer) → IsBest Fits cost width present.bits (Some next) → next.cost < present.cost → (end : List ℕ) → Grown Fits cost width most next.bits end → Grown Fits cost width most present.bits end
    grows next leads less end more = grow few leads.bit (record { best = leads.best; less = omega (arith, costed, leads.costed, ap cost leads.set) }) (subst (λ set. Grown Fits cost width most set end) leads.set more)

    pub gains_nothing : (next : Offer) → IsBest Fits cost width present.bits (Some next) → present.cost ≤ next.cost → Grown Fits cost width most present.bits present.bits
    gains_nothing next leads le = no_gain few leads.bit leads.best (omega (arith, costed, leads.costed, ap cost leads.set))

    pub stays_stuck : IsBest Fits cost width present.bits None → Grown Fits cost width most present.bits present.bits
    stays_stuck none = stuck few none

  pub stays_full : (most : ℕ) (bits : List ℕ) → most ≤ length bits → Grown Fits cost width most bits bits
  stays_full most bits le = full le

  pub longer : (bits : List ℕ) (next : Offer) → IsBest Fits cost width bits (Some next) → length next.bits ≡ length bits + 1
  longer bits next leads = omega (arith, ap length leads.set, length_with leads.bit bits)

  pub costed_too : (bits : List ℕ) (next : Offer) → IsBest Fits cost width bits (Some next) → next.cost ≡ cost next.bits
  costed_too bits next leads = leads.costed

pub room_for_more : (most n : ℕ) (bits : List ℕ) → length bits < most → 2 ^ most ≤ n → 2 ^ (length bits + 1) ≤ n
room_for_more most n bits few room = let le : length bits + 1 ≤ most = omega arith in omega (arith, pow_mono le)
