-- From calls that were carried out to the steps that they are, and from these to a list of them.
use Rattle.std.proofs.Common.{◌≡◌, ℕ, ◌+◌, ◌<◌, ◌≤◌, List, [], ◌∷◌, ◌++◌, map, length, get_or, set, take, Some, Option, Result, sym, refl, ap, ◌∙◌, subst, arith}
use Rattle.std.proofs.lemmas.List.{length-map, get_or-map, map-set, map-append, map_more, take_more_set, set-get_or, take_all}
use Rattle.kinds.specs.Meaning.{Meaning}
use Rattle.kinds.specs.declared.line.Line.{Line}
use Rattle.choice.specs.declared.choice.Choice.{Choice}
use Rattle.table.specs.Refusals.{at}
use Rattle.table.specs.Calls.{memory, Puts, Strikes, ChoosesAnew, looks_up}
use Rattle.table.specs.declared.refusal.Fault.{Fault}
use Rattle.table.specs.declared.shape.Shape.{Shape}
use Rattle.history.specs.Turns.{costed, asked_of, lent, of_change, of_choice, of_look_up}
use Rattle.history.specs.Histories.{Moment, moment, Lives, nothing_yet, one_more, Step, puts, strikes, chooses, looks}
use Rattle.history.specs.Runs.{CarriedOut}
use Rattle.history.specs.declared.turn.Asked.{Asked}
use Rattle.history.specs.declared.turn.Call.{Call}
use Rattle.history.specs.declared.turn.Call.TheVariants.{Put, Strike, Choose, LookUp}
use Rattle.history.specs.declared.turn.Turn.{Turn}
use Rattle.history.specs.declared.turn.Answer.{Answer}

module _ {Header Rule Row J : Type 0} (k : Meaning Header Rule Row) (cost : J → List ℕ → ℕ) (table after : Shape) (lines left : List (Line Row)) (area laid tally counted : List ℕ) (call : Call Rule Header J) (answer : Answer) where
  as_step : (one : Call Rule Header J) (a : Answer) → call ≡ one → answer ≡ a → Step k (moment table lines area) (length tally) (costed cost one) a (moment after left laid) → Step k (moment table lines area) (length tally) (costed cost call) answer (moment after left laid)
  as_step one a call_is is step =
      subst (λ c. Step k (moment table lines area) (length tally) (costed cost c) answer (moment after left laid)) (sym call_is) (subst (λ x. Step k (moment table lines area) (length tally) (costed cost one) x (moment after left laid)) (sym is) step)

  pub put_step : (line : ℕ) (rule : Rule) (r : Result (Unit {0}) Fault) → call ≡ Put line rule → answer ≡ of_change r → after ≡ table → Puts k table (memory lines area tally) (memory left laid counted) (at line) line rule r → Step k (moment table lines area) (length tally) (costed cost call) answer (moment after left laid)
  put_step line rule r call_is is same did = as_step (Put line rule) (of_change r) call_is is (puts tally counted r refl same did)

  pub strike_step : (line : ℕ) (r : Result (Unit {0}) Fault) → call ≡ Strike line → answer ≡ of_change r → after ≡ table → Strikes k table (memory lines area tally) (memory left laid counted) (at line) line r → Step k (moment table lines area) (length tally) (costed cost call) answer (moment after left laid)
  strike_step line r call_is is same did = as_step (Strike line) (of_change r) call_is is (strikes tally counted r refl same did)

  pub choose_step : (asked : Asked J) (r : Result Choice Fault) → call ≡ Choose asked → answer ≡ of_choice r → ChoosesAnew k table (memory lines area tally) (memory left laid counted) (cost asked.judge) asked.limits after r → Step k (moment table lines area) (length tally) (costed cost call) answer (moment after left laid)
  choose_step asked r call_is is did = as_step (Choose asked) (of_choice r) call_is is (chooses tally counted r refl did)

module _ {Header Rule Row J : Type 0} (k : Meaning Header Rule Row) (cost : J → List ℕ → ℕ) (table : Shape) (lines : List (Line Row)) (area tally : List ℕ) (call : Call Rule Header J) (answer : Answer) where
  pub look_step : (header : Header) (r : Result (Option ℕ × ℕ) Fault) → call ≡ LookUp header → answer ≡ of_look_up r → r ≡ looks_up k table header lines area → Step k (moment table lines area) (length tally) (costed cost call) answer (moment table lines area)
  look_step header r call_is is found = as_step k cost table table lines lines area area tally tally call answer (LookUp header) (of_look_up (looks_up k table header lines area)) call_is (is ∙ ap of_look_up found) looks

-- some turns were taken, and their answers written
module _ {Header Rule Row J : Type 0} (k : Meaning Header Rule Row) (cost : J → List ℕ → ℕ) (room : ℕ) (before : List (Turn Rule Header J)) where
  abbrev told : Turn Rule Header J → Option Answer
  told turn = turn.answer

  pub record SoFar (first : Moment Row) (taken : ℕ) (turns : List (Turn Rule Header J)) (last : Moment Row) : Type 0 where
    pub answers : List Answer
    pub lived : Lives k first (map (lent cost room) (take taken (map asked_of before))) answers last
    pub answered : take taken (map told turns) ≡ map Some answers
    pub asks : map asked_of turns ≡ map asked_of before

  pub none_taken : (first : Moment Row) → SoFar first 0 before first
  none_taken first = record { answers = []; lived = nothing_yet; answered = refl; asks = refl }

  pub one_taken : (first last next : Moment Row) (turns written : List (Turn Rule Header J)) (taken n : ℕ) (turn : Turn Rule Header J) (answer : Answer)
      → n ≡ room → SoFar first taken turns last → taken < length turns → turn ≡ get_or turns taken turn → written ≡ set turns taken (record { call = turn.call; tally = turn.tally; answer = Some answer })
      → Step k last (lent cost n (asked_of turn)).tally (lent cost n (asked_of turn)).call answer next
      → SoFar first (taken + 1) written next
  one_taken first last next turns written taken n turn answer long so_far more turn_is is step =
      let new : Turn Rule Header J = record { call = turn.call; tally = turn.tally; answer = Some answer } in
      let asked = asked_of turn in
      let here : get_or (map asked_of turns) taken asked ≡ asked = get_or-map asked_of turns taken turn asked more ∙ ap asked_of (sym turn_is) in
      let place : taken < length (map asked_of before) = omega (arith, length-map turns asked_of, ap length so_far.asks) in
      let turns_are : map (lent cost room) (take (taken + 1) (map asked_of before)) ≡ map (lent cost room) (take taken (map asked_of before)) ++ lent cost room asked ∷ [] =
      map_more (lent cost room) (map asked_of before) taken asked place ∙ ap (λ x. map (lent cost room) (take taken (map asked_of before)) ++ lent cost room x ∷ []) (ap (λ l. get_or l taken asked) (sym so_far.asks) ∙ here) in
      let step_is = subst (λ (m : ℕ). Step k last (lent cost m asked).tally (lent cost m asked).call answer next) long step in
      subst (λ ts. SoFar first (taken + 1) ts next) (sym is) (record {
        answers = so_far.answers ++ answer ∷ [];
        lived = subst (λ ts. Lives k first ts (so_far.answers ++ answer ∷ []) next) (sym turns_are) (one_more so_far.lived step_is);
        answered = ap (take (taken + 1)) (map-set told turns taken new)
            ∙ take_more_set (map told turns) taken (Some answer) (omega (arith, length-map turns told))
            ∙ ap (λ l. l ++ Some answer ∷ []) so_far.answered
            ∙ sym (map-append Some so_far.answers (answer ∷ []));
        asks = map-set asked_of turns taken new
            ∙ ap (set (map asked_of turns) taken) (sym here)
            ∙ set-get_or (map asked_of turns) taken asked
            ∙ so_far.asks;
      })

  pub all_taken : (first last : Moment Row) (turns : List (Turn Rule Header J)) (taken : ℕ) → length turns ≤ taken → SoFar first taken turns last → CarriedOut k cost room before first turns last
  all_taken first last turns taken all so_far = record {
    answers = so_far.answers;
    lived = subst (λ ts. Lives k first (map (lent cost room) ts) so_far.answers last) (take_all taken (map asked_of before) (omega (arith, length-map turns asked_of, ap length so_far.asks))) so_far.lived;
    answered = sym (take_all taken (map told turns) (omega (arith, length-map turns told))) ∙ so_far.answered;
    asks = so_far.asks;
  }
