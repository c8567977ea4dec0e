-- Evolution, from one round of exchanges to the next.
use Rattle.std.proofs.Common.{◌≡◌, ℕ, ◌+◌, ◌-◌, ◌<◌, ◌≤◌, List, [], length, ap, ◌∙◌, subst, arith}
use Rattle.std.specs.declared.ops.ControlFlow.{ControlFlow}
use Rattle.std.specs.declared.ops.ControlFlow.TheVariants.{Continue, Break}
use Rattle.bits.proofs.Lengths.{length_exchanged}
use Rattle.kinds.specs.Meaning.{Meaning}
use Rattle.kinds.specs.Lines.{rules_of}
use Rattle.choice.specs.Evolution.{exchanges, exchange_at, Evolved, settled, stopped, taken}
use Rattle.choice.specs.Searches.{offer_in, Costed, Evolves, OnTheWay}
use Rattle.choice.specs.Tries.{tries_of}
use Rattle.choice.specs.declared.choice.Outcome.{Outcome}
use Rattle.choice.specs.declared.choice.Outcome.TheVariants.{Settled, Stopped}
use Rattle.choice.specs.declared.search.Offer.{Offer}
use Rattle.choice.specs.declared.search.Search.{Search}
use Rattle.choice.specs.declared.evolve.Ended.{Ended}
use Rattle.choice.specs.declared.evolve.Ended.TheVariants.{Taken, Spent}
use Rattle.choice.proofs.Exchanges.{all_exchanges}
use Rattle.choice.proofs.Rounds.{EndsBy, ends}

length_exchange : (width : ℕ) (bits : List ℕ) (place : ℕ) → place < length (exchanges width bits) → length (exchange_at width bits place) ≡ length bits
length_exchange width bits place = all_exchanges width bits (λ set. length set ≡ length bits) (λ out b has below free. length_exchanged bits out b has) place []

-- an equal count of tries
pub as_used : {Fits : List ℕ → Type 0} {cost : List ℕ → ℕ} {width : ℕ} {bits : List ℕ} {left : ℕ} {end : List ℕ} {used : ℕ} {outcome : Outcome} (all : ℕ) → used ≡ all → Evolved Fits cost width bits left end used outcome → Evolved Fits cost width bits left end all outcome
as_used {Fits} {cost} {width} {bits} {left} {end} {used} {outcome} all is more = subst (λ n. Evolved Fits cost width bits left end n outcome) is more

module _ {Header Rule Row Judge : Type 0} (k : Meaning Header Rule Row) (cost : Judge → List ℕ → ℕ) (search : Search Row Judge) where
  pub way_starts : (start : List ℕ) (tries : ℕ) → OnTheWay k cost search start tries start tries
  way_starts start tries = record { few = omega arith; ends = λ end used all outcome is more. as_used all (omega arith) more }

  -- all exchanges of a set with its cost were tried
  module _ (start : List ℕ) (tries : ℕ) (present : Offer) (left : ℕ) (so_far : OnTheWay k cost search start tries present.bits left) (priced : Costed k cost search present) where
    abbrev went : ControlFlow Ended ℕ
    went = tries_of (offer_in k cost search) present.cost (exchanges k.width present.bits) left

    abbrev Ended_by : ControlFlow Ended ℕ → Type 0
    Ended_by = EndsBy k (rules_of k search.lines.now) search.room (cost search.judge.now) present.cost (exchanges k.width present.bits) left

    ended_by : (r : ControlFlow Ended ℕ) → r ≡ went → Ended_by r
    ended_by r is = rw is (ends k (rules_of k search.lines.now) search.room (cost search.judge.now) present.cost (exchanges k.width present.bits) left)

    pub few_left : (now : ℕ) → Continue now ≡ went → now ≤ tries
    few_left now is = omega (arith, (ended_by (Continue now) is).0, so_far.few)

    pub settles : (now : ℕ) → Continue now ≡ went → Evolves k cost search start tries present.bits (tries - now) Settled
    settles now is =
        let all = ended_by (Continue now) is in
        so_far.ends present.bits (length (exchanges k.width present.bits)) (tries - now) Settled (omega (arith, all.0, so_far.few))
        (settled (omega (arith, all.0)) (λ place lt better. all.1 place lt (better.0, omega (arith, better.1))))

    pub stops : Break Spent ≡ went → Evolves k cost search start tries present.bits tries Stopped
    stops is =
        let all = ended_by (Break Spent) is in
        so_far.ends present.bits left tries Stopped (omega arith) (stopped all.0 (λ place lt better. all.1 place lt (better.0, omega (arith, better.1))))

    -- one was taken: the way goes on from it
    pub record Turn (next : Offer) (now : ℕ) : Type 0 where
      pub fewer : now < left
      pub same : length next.bits ≡ length present.bits
      pub costed : Costed k cost search next
      pub way : OnTheWay k cost search start tries next.bits now

    pub takes : (next : Offer) (now : ℕ) → Break (Taken next now) ≡ went → Turn next now
    takes next now is =
        let at = ended_by (Break (Taken next now)) is in
        let rest : now ≡ left - (at.place + 1) = omega (arith, at.tries) in
        record {
          fewer = omega (arith, at.tries);
          same = ap length at.is ∙ length_exchange k.width present.bits at.place at.inside;
          costed = at.costed;
          way = record {
            few = omega (arith, at.tries, so_far.few);
            ends = λ end used all outcome same more.
                so_far.ends end (at.place + 1 + used) all outcome (omega (arith, same, at.tries))
                (taken at.place (omega (arith, at.tries)) (record { inside = at.inside; before = λ place lt better. at.before place lt (better.0, omega (arith, better.1)); better = (at.takes.0, omega (arith, at.takes.1)) })
                (subst (λ set. Evolves k cost search set (left - (at.place + 1)) end used outcome) at.is
                (subst (λ n. Evolves k cost search next.bits n end used outcome) rest more)));
          };
        }
