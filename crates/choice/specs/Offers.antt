-- A set of bits with its cost, as the search for a choice handles it. No public contract names these words.
--     offer_of     a set with its cost, or none where its table does not fit
--     cheaper_of   the cheaper of two, the first among equals
--     Leads        it is made by the best bit
--     IsBest       the set that the best bit makes, or none exactly where no bit may be added
-- Assumes nothing.
use Rattle.std.specs.Prelude.{◌≡◌, ℕ, List, Some, None, Option, if◌then◌else◌, nat_lt}
use Rattle.bits.specs.Sets.{with_bit}
use Rattle.kinds.specs.Meaning.{Meaning}
use Rattle.blocks.specs.Blocks.{table_size}
use Rattle.choice.specs.Growth.{Addable, Best}
use Rattle.choice.specs.Choice.{cost_in}
use Rattle.choice.specs.declared.search.Offer.{Offer}

abbrev pub offer_of : {Header Rule Row : Type 0} → Meaning Header Rule Row → List (Option Rule) → ℕ → (List ℕ → ℕ) → List ℕ → Option Offer
offer_of k rules room judge bits = if nat_lt room (table_size k rules bits) then None else Some (record { bits = bits; cost = cost_in k rules judge bits })

abbrev pub cheaper_of : Option Offer → Option Offer → Option Offer
cheaper_of None other = other
cheaper_of (Some one) None = Some one
cheaper_of (Some one) (Some other) = if nat_lt other.cost one.cost then Some other else Some one

module _ (Fits : List ℕ → Type 0) (cost : List ℕ → ℕ) (width : ℕ) (bits : List ℕ) where
  pub record Leads (offer : Offer) : Type 0 where
    pub bit : ℕ
    pub set : offer.bits ≡ with_bit bit bits
    pub costed : offer.cost ≡ cost offer.bits
    pub best : Best Fits cost width bits bit

  abbrev pub IsBest : Option Offer → Type 0
  IsBest None = (b : ℕ) → Addable Fits width bits b → ⊥
  IsBest (Some offer) = Leads offer
