-- What the search's own functions say, by the search that they are asked of. No public contract names these words.
--     offer_in   a set with its cost, or none where its table does not fit
--     Costed     an offer's cost is its set's
--     BestBelow  an offer is of the set that the best bit below a number makes, or there is none
--     BestOf     the same of all bits of a header
--     Grows      growth from a set ends at another
--     Evolves    evolution from a set, with so many tries, ends at another, after so many tries, settled or stopped
--     OnTheWay   a set that evolution has come to, with so many tries left
-- Assumes nothing.
use Rattle.std.specs.Prelude.{◌≡◌, ℕ, ◌+◌, ◌≤◌, List, Option}
use Rattle.kinds.specs.Meaning.{Meaning}
use Rattle.kinds.specs.Lines.{rules_of}
use Rattle.choice.specs.Growth.{Grown}
use Rattle.choice.specs.Evolution.{Evolved}
use Rattle.choice.specs.Choice.{FitsIn, cost_in}
use Rattle.choice.specs.Offers.{offer_of, IsBest}
use Rattle.choice.specs.declared.choice.Outcome.{Outcome}
use Rattle.choice.specs.declared.search.Offer.{Offer}
use Rattle.choice.specs.declared.search.Search.{Search}

module _ {Header Rule Row Judge : Type 0} (k : Meaning Header Rule Row) (cost : Judge → List ℕ → ℕ) (search : Search Row Judge) where
  abbrev pub offer_in : List ℕ → Option Offer
  offer_in = offer_of k (rules_of k search.lines.now) search.room (cost search.judge.now)

  abbrev pub Costed : Offer → Type 0
  Costed offer = offer.cost ≡ cost_in k (rules_of k search.lines.now) (cost search.judge.now) offer.bits

  abbrev pub BestBelow : ℕ → List ℕ → Option Offer → Type 0
  BestBelow = IsBest (FitsIn k (rules_of k search.lines.now) search.room) (cost_in k (rules_of k search.lines.now) (cost search.judge.now))

  abbrev pub BestOf : List ℕ → Option Offer → Type 0
  BestOf = BestBelow k.width

  abbrev pub Grows : ℕ → List ℕ → List ℕ → Type 0
  Grows = Grown (FitsIn k (rules_of k search.lines.now) search.room) (cost_in k (rules_of k search.lines.now) (cost search.judge.now)) k.width

  abbrev pub Evolves : List ℕ → ℕ → List ℕ → ℕ → Outcome → Type 0
  Evolves = Evolved (FitsIn k (rules_of k search.lines.now) search.room) (cost_in k (rules_of k search.lines.now) (cost search.judge.now)) k.width

  -- what evolution from a set ends with, evolution from the start ends with, after the tries on the way too
  pub record OnTheWay (start : List ℕ) (tries : ℕ) (bits : List ℕ) (left : ℕ) : Type 0 where
    pub few : left ≤ tries
    pub ends : (end : List ℕ) (used all : ℕ) (outcome : Outcome) → all + left ≡ tries + used → Evolves bits left end used outcome → Evolves start tries end all outcome
