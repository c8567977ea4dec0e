-- The choice of bits for the table of some lines in an area, by a judge.
--     Reached               what is known of every set that a choice reaches
--     Chosen                growth from no bit, and evolution from the set that it ends at
--     GoesThrough           the sets that a best bit that gains, or a first better exchange, leads to from no bit, in any order: all that growth and evolution go through are among them
--     Unbettered            no exchange of a chosen bit for an unchosen one, whose table fits, costs less
--     FitsIn                whether the table of a set of bits fits
--     cost_in               what the judge says of its block sizes
--     IsChoice              a choice as it is told is the one reached
--     IsOnlyChoice          and there is no other: neither its bits nor its tries nor how it ended could differ
--     Way                   the chosen bits are one of these sets, and of each of these what is known
--     UnbetteredIfSettled   a choice that settled can't be bettered by an exchange
-- Assumes nothing.
use Rattle.std.specs.Prelude.{◌≡◌, ℕ, ◌<◌, ◌≤◌, true, List, [], length, Option}
use Rattle.bits.specs.Sets.{rising, member, with_bit, exchanged}
use Rattle.kinds.specs.Meaning.{Meaning}
use Rattle.blocks.specs.Blocks.{sizes, Fits}
use Rattle.choice.specs.Growth.{is_free, Gains, Grown}
use Rattle.choice.specs.Evolution.{exchange_at, FirstBetter, Evolved}
use Rattle.choice.specs.declared.choice.Choice.{Choice}
use Rattle.choice.specs.declared.choice.Outcome.{Outcome}
use Rattle.choice.specs.declared.choice.Outcome.TheVariants.{Settled}
use Rattle.choice.specs.declared.limits.Limits.{Limits}

module _ (Fits : List ℕ → Type 0) where
  pub record Reached (width most : ℕ) (bits : List ℕ) : Type 0 where
    pub few : length bits ≤ most
    pub rises : rising bits ≡ true
    pub below : (b : ℕ) → member b bits ≡ true → b < width
    pub fits : Fits bits

  module _ (cost : List ℕ → ℕ) (width : ℕ) where
    pub record Chosen (most tries : ℕ) (bits : List ℕ) (used : ℕ) (outcome : Outcome) : Type 0 where
      pub grown : List ℕ
      pub grows : Grown Fits cost width most [] grown
      pub evolves : Evolved Fits cost width grown tries bits used outcome

    -- with at most so many bits: no bit, a set that the best bit gains for, a set that the first better exchange leads to
    pub data GoesThrough (most : ℕ) : List ℕ → Type 0 where
      no_bit : GoesThrough most []
      one_more : {bits : List ℕ} → GoesThrough most bits → length bits < most → (b : ℕ) → Gains Fits cost width bits b → GoesThrough most (with_bit b bits)
      one_exchanged : {bits : List ℕ} → GoesThrough most bits → (place : ℕ) → FirstBetter Fits cost width bits place → GoesThrough most (exchange_at width bits place)

    abbrev pub Unbettered : List ℕ → Type 0
    Unbettered bits = (out b : ℕ) → member out bits ≡ true → b < width → is_free bits b ≡ true → Fits (exchanged bits out b) → cost bits ≤ cost (exchanged bits out b)

module _ {Header Rule Row : Type 0} (k : Meaning Header Rule Row) (rules : List (Option Rule)) where
  abbrev pub FitsIn : ℕ → List ℕ → Type 0
  FitsIn room bits = Fits k rules bits room

  abbrev pub cost_in : (List ℕ → ℕ) → List ℕ → ℕ
  cost_in judge bits = judge (sizes k rules bits)

  module _ (room : ℕ) (judge : List ℕ → ℕ) where
    abbrev pub IsChoice : Limits → Choice → Type 0
    IsChoice limits choice = Chosen (FitsIn room) (cost_in judge) k.width limits.most_bits limits.most_tries choice.bits choice.tries choice.outcome

    abbrev pub IsOnlyChoice : Limits → Choice → Type 0
    IsOnlyChoice limits choice = (other : Choice) → IsChoice limits other → other ≡ choice

    pub record Way (most : ℕ) (choice : Choice) : Type 0 where
      pub among : GoesThrough (FitsIn room) (cost_in judge) k.width most choice.bits
      pub each : (bits : List ℕ) → GoesThrough (FitsIn room) (cost_in judge) k.width most bits → Reached (FitsIn room) k.width most bits

    abbrev pub UnbetteredIfSettled : Choice → Type 0
    UnbetteredIfSettled choice = choice.outcome ≡ Settled → Unbettered (FitsIn room) (cost_in judge) k.width choice.bits
