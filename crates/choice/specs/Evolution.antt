-- Intelli-Evolution: chosen bits are exchanged for others, one at a time, while that gains.
--     unchosen      the bits of a header that are not chosen, rising
--     exchanges     the sets that one exchange leads to: the bit out rising, and for each the bit in, rising
--     exchange_at   the set at a place of these
--     Better        a set whose table fits and costs less
--     NoneBetter    none of the first exchanges leads to a better set
--     FirstBetter   the first exchange that leads to a better set stands at a place
--     Evolved       from a set, with some tries left: the set reached, the tries used, and how it ended
-- Assumes nothing.
use Rattle.std.specs.Prelude.{ℕ, ◌+◌, ◌-◌, ◌<◌, ◌≤◌, List, [], map, filter, length, slice_index_or}
use Rattle.std.specs.List.{flat_map, range_with_len}
use Rattle.bits.specs.Sets.{exchanged}
use Rattle.choice.specs.Growth.{is_free}
use Rattle.choice.specs.declared.choice.Outcome.{Outcome}
use Rattle.choice.specs.declared.choice.Outcome.TheVariants.{Settled, Stopped}

abbrev pub unchosen : ℕ → List ℕ → List ℕ
unchosen width bits = filter (is_free bits) (range_with_len 0 width)

abbrev pub exchanges : ℕ → List ℕ → List (List ℕ)
exchanges width bits = flat_map (λ out. map (exchanged bits out) (unchosen width bits)) bits

abbrev pub exchange_at : ℕ → List ℕ → ℕ → List ℕ
exchange_at width bits place = slice_index_or (exchanges width bits) place []

module _ (Fits : List ℕ → Type 0) (cost : List ℕ → ℕ) where
  abbrev pub Better : List ℕ → List ℕ → Type 0
  Better bits other = Fits other × (cost other < cost bits)

  module _ (width : ℕ) where
    abbrev pub NoneBetter : List ℕ → ℕ → Type 0
    NoneBetter bits first = (place : ℕ) → place < first → Better bits (exchange_at width bits place) → ⊥

    pub record FirstBetter (bits : List ℕ) (place : ℕ) : Type 0 where
      pub inside : place < length (exchanges width bits)
      pub before : NoneBetter bits place
      pub better : Better bits (exchange_at width bits place)

    -- settled: all passed, and a try was left for each; stopped: the tries left were spent before the last; taken: the first better one, where a try is left for it
    pub data Evolved : List ℕ → ℕ → List ℕ → ℕ → Outcome → Type 0 where
      settled : {bits : List ℕ} {left : ℕ} → length (exchanges width bits) ≤ left → NoneBetter bits (length (exchanges width bits)) → Evolved bits left bits (length (exchanges width bits)) Settled
      stopped : {bits : List ℕ} {left : ℕ} → left < length (exchanges width bits) → NoneBetter bits left → Evolved bits left bits left Stopped
      taken : {bits end : List ℕ} {left used : ℕ} {outcome : Outcome} (place : ℕ) → place < left → FirstBetter bits place → Evolved (exchange_at width bits place) (left - (place + 1)) end used outcome → Evolved bits left end (place + 1 + used) outcome
