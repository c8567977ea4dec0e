-- The whole choice: it is the only one, and what every choice reaches.
use Rattle.std.proofs.Common.{◌≡◌, ℕ, ◌^◌, ◌≤◌, false, List, [], length, get_or, Some, None, Option, refl, sym, ◌∙◌, subst, inl, inr, arith}
use Rattle.std.proofs.Math.Pow.{pow_mono}
use Rattle.std.proofs.lemmas.Bool.{cases_lt, lt-ltb}
use Rattle.std.proofs.lemmas.Bool.Decides.{nat_tests}
use Rattle.std.proofs.lemmas.List.{get_or_default}
use Rattle.bits.specs.Chosen.{IsBits}
use Rattle.bits.proofs.Members.{member_at}
use Rattle.kinds.specs.Meaning.{Meaning, Lawful}
use Rattle.blocks.specs.Blocks.{table_size}
use Rattle.choice.specs.Growth.{Grown}
use Rattle.choice.specs.Choice.{Reached, GoesThrough, no_bit, FitsIn, cost_in, IsChoice, Way, Unbettered}
use Rattle.choice.specs.Checks.{asks_too_much}
use Rattle.choice.specs.Offers.{offer_of}
use Rattle.choice.specs.declared.choice.Choice.{Choice}
use Rattle.choice.specs.declared.choice.Outcome.TheVariants.{Settled}
use Rattle.choice.specs.declared.limits.Limits.{Limits}
use Rattle.choice.specs.declared.search.Offer.{Offer}
use Rattle.choice.proofs.Deterministic.{chosen_one}
use Rattle.choice.proofs.Reached.{each_reached, grown_goes, evolved_goes, evolved_unbettered, evolved_few}

module _ {Header Rule Row : Type 0} (k : Meaning Header Rule Row) (rules : List (Option Rule)) (room : ℕ) (judge : List ℕ → ℕ) where
  -- an offer is of a set whose table fits
  pub offer_fits : (set : List ℕ) (next : Offer) (r : Option Offer) → r ≡ Some next → r ≡ offer_of k rules room judge set → FitsIn k rules room set
  offer_fits set next r some is =
      elim (cases_lt room (table_size k rules set)) [
        | inl over ↦ (let none : Some next ≡ None = sym some ∙ is ∙ rw (lt-ltb room (table_size k rules set) over) refl in absurd (grind (arith, none)))
        | inr fits ↦ fits
      ]

  pub only_choice : (limits : Limits) (choice : Choice) → IsChoice k rules room judge limits choice → (other : Choice) → IsChoice k rules room judge limits other → other ≡ choice
  only_choice limits choice is other too =
      let one = chosen_one (FitsIn k rules room) (cost_in k rules judge) k.width limits.most_bits limits.most_tries choice.bits other.bits choice.tries other.tries choice.outcome other.outcome is too in
      λ i. record { bits = one.0 i; tries = one.1 i; outcome = one.2 i }

  pub way_reached : (limits : Limits) (choice : Choice) → FitsIn k rules room [] → IsChoice k rules room judge limits choice → Way k rules room judge limits.most_bits choice
  way_reached limits choice fits is = record {
    among = evolved_goes (FitsIn k rules room) (cost_in k rules judge) k.width limits.most_bits (grown_goes (FitsIn k rules room) (cost_in k rules judge) k.width limits.most_bits no_bit is.grows) is.evolves;
    each = λ bits. each_reached (FitsIn k rules room) (cost_in k rules judge) k.width limits.most_bits fits;
  }

  pub bits_reached : (limits : Limits) (choice : Choice) → FitsIn k rules room [] → IsChoice k rules room judge limits choice → Reached (FitsIn k rules room) k.width limits.most_bits choice.bits
  bits_reached limits choice fits is = let way = way_reached limits choice fits is in way.each choice.bits way.among

  -- so they are a set of bits, where no more is asked than may be
  pub bits_set : Lawful k → (limits : Limits) (choice : Choice) → asks_too_much k.width limits ≡ false → FitsIn k rules room [] → IsChoice k rules room judge limits choice → IsBits choice.bits
  bits_set law limits choice allowed fits is =
      let reached = bits_reached limits choice fits is in
      let few : limits.most_bits ≤ 12 = grind (arith, nat_tests) in
      record {
        few = omega (arith, reached.few);
        rises = reached.rises;
        below = λ k d lt. omega (arith, law.few_bits, reached.below (get_or choice.bits k d) (member_at (get_or choice.bits k d) choice.bits k lt (get_or_default choice.bits k 0 d lt)));
      }

  pub few_tries : (limits : Limits) (choice : Choice) → IsChoice k rules room judge limits choice → choice.tries ≤ limits.most_tries
  few_tries limits choice is = evolved_few (FitsIn k rules room) (cost_in k rules judge) k.width is.evolves

  pub settled_unbettered : (limits : Limits) (choice : Choice) → IsChoice k rules room judge limits choice → choice.outcome ≡ Settled → Unbettered (FitsIn k rules room) (cost_in k rules judge) k.width choice.bits
  settled_unbettered limits choice is = evolved_unbettered (FitsIn k rules room) (cost_in k rules judge) k.width is.evolves

  -- what has grown from no bit has cells for few bits
  pub grown_room : (most n : ℕ) (bits end : List ℕ) → FitsIn k rules room [] → bits ≡ [] → Grown (FitsIn k rules room) (cost_in k rules judge) k.width most bits end → 2 ^ most ≤ n → 2 ^ length end ≤ n
  grown_room most n bits end fits none grown enough =
      let start = subst (GoesThrough (FitsIn k rules room) (cost_in k rules judge) k.width most) (sym none) no_bit in
      let few = (each_reached (FitsIn k rules room) (cost_in k rules judge) k.width most fits (grown_goes (FitsIn k rules room) (cost_in k rules judge) k.width most start grown)).few in
      omega (arith, pow_mono few)
