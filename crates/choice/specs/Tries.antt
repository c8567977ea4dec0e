-- Going through sets one by one, a try for each, until one is better or the tries are spent. No public contract names these words.
--     going_on       what follows where it goes on
--     after_try      after a try: a cheaper set is taken, else it goes on
--     try_of         one try, where one is left
--     tries_of       tries of these sets, one by one
--     exchange_try   the try of an exchange, if the bit in is not chosen
-- Assumes nothing.
use Rattle.std.specs.Prelude.{ℕ, ◌-◌, ◌==◌, List, [], ◌∷◌, Some, None, Option, if◌then◌else◌, nat_lt}
use Rattle.std.specs.declared.ops.ControlFlow.{ControlFlow}
use Rattle.std.specs.declared.ops.ControlFlow.TheVariants.{Continue, Break}
use Rattle.bits.specs.Sets.{exchanged}
use Rattle.choice.specs.Growth.{is_free}
use Rattle.choice.specs.declared.search.Offer.{Offer}
use Rattle.choice.specs.declared.evolve.Ended.{Ended}
use Rattle.choice.specs.declared.evolve.Ended.TheVariants.{Taken, Spent}

abbrev pub going_on : ControlFlow Ended ℕ → (ℕ → ControlFlow Ended ℕ) → ControlFlow Ended ℕ
going_on (Continue left) next = next left
going_on (Break ended) next = Break ended

module _ (offer : List ℕ → Option Offer) (cost : ℕ) where
  abbrev pub after_try : Option Offer → ℕ → ControlFlow Ended ℕ
  after_try None left = Continue left
  after_try (Some next) left = if nat_lt next.cost cost then Break (Taken next left) else Continue left

  abbrev pub try_of : List ℕ → ℕ → ControlFlow Ended ℕ
  try_of bits left = if left == 0 then Break Spent else after_try (offer bits) (left - 1)

  abbrev pub tries_of : List (List ℕ) → ℕ → ControlFlow Ended ℕ
  tries_of [] left = Continue left
  tries_of (bits ∷ sets) left = going_on (try_of bits left) (λ now. tries_of sets now)

  abbrev pub exchange_try : List ℕ → ℕ → ℕ → ℕ → ControlFlow Ended ℕ
  exchange_try bits out b left = if is_free bits b then try_of (exchanged bits out b) left else Continue left
