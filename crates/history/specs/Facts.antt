-- What holds after every history.
--     plain_of         the plain book that a moment's lines and table are
--     Certified        what is known of a choice: it is the one that the definition reaches, within the limits, and where it says settled no exchange betters it
--     SameAsPlain      the plain book, fed the same calls, gives the same answers and is what the lines and the table are at the end
--     FindsTheLowest   a look-up of any header names the lowest line that matches
--     Canonical        the area is the one that laying gives
--     PathIndependent  another history that reaches the same rules and bits in memory of equal lengths holds the same area, and any further calls are answered alike
--     AllCertified     each choice is certified: the first, and every choice anew, whatever moment it finds, so each in the history
--     Facts            all of these
--     FactsOfAll       they hold of every history, whoever lived it
-- Assumes nothing.
use Rattle.std.specs.Prelude.{◌≡◌, ℕ, ◌≤◌, List, length, Option}
use Rattle.kinds.specs.Meaning.{Meaning}
use Rattle.kinds.specs.Lines.{rules_of}
use Rattle.choice.specs.Choice.{Reached, FitsIn, IsChoice, IsOnlyChoice, UnbetteredIfSettled}
use Rattle.choice.specs.declared.choice.Choice.{Choice}
use Rattle.layout.specs.LookUp.{FindsLowest}
use Rattle.table.specs.Calls.{laid_for, looks_up}
use Rattle.history.specs.Turns.{AnyTurn}
use Rattle.history.specs.Plain.{Plain, Tells}
use Rattle.history.specs.Histories.{Moment, Step, Lives, Start, History}
use Rattle.history.specs.declared.turn.Asked.{Asked}
use Rattle.history.specs.declared.turn.Call.TheVariants.{Choose}
use Rattle.history.specs.declared.turn.Answer.{Answer}
use Rattle.history.specs.declared.turn.Answer.TheVariants.{Chosen}

module _ {Header Rule Row : Type 0} (k : Meaning Header Rule Row) where
  abbrev pub plain_of : Moment Row → Plain Rule
  plain_of m = record { rules = rules_of k m.lines; bits = m.table.bits }

  -- by a judge, for some rules and an area of so many places
  pub record Certified (rules : List (Option Rule)) (room : ℕ) (asked : Asked (List ℕ → ℕ)) (choice : Choice) : Type 0 where
    pub is : IsChoice k rules room asked.judge asked.limits choice
    pub only : IsOnlyChoice k rules room asked.judge asked.limits choice
    pub reached : Reached (FitsIn k rules room) k.width asked.limits.most_bits choice.bits
    pub tries : choice.tries ≤ asked.limits.most_tries
    pub unbettered : UnbetteredIfSettled k rules room asked.judge choice

  module _ (start : Start Row) (choice : Choice) (turns : List (AnyTurn Rule Header)) (answers : List Answer) (last : Moment Row) where
    abbrev pub SameAsPlain : Type 0
    SameAsPlain = Tells k start.room (record { rules = rules_of k start.lines; bits = choice.bits }) turns answers (plain_of last)

    abbrev pub FindsTheLowest : Type 0
    FindsTheLowest = (header : Header) → FindsLowest k (rules_of k last.lines) last.table.bits header (looks_up k last.table header last.lines last.area)

    pub record Canonical : Type 0 where
      pub long : length last.area ≡ start.room
      pub area : last.area ≡ laid_for k last.table last.lines last.area

    abbrev pub PathIndependent : Type 0
    PathIndependent =
        (other_start : Start Row) (other_choice : Choice) (other_turns : List (AnyTurn Rule Header)) (other_answers : List Answer) (other : Moment Row)
        → History k other_start other_choice other_turns other_answers other
        → other_start.room ≡ start.room → plain_of other ≡ plain_of last
        → (other.area ≡ last.area)
        × ((further : List (AnyTurn Rule Header)) (ones others : List Answer) (end other_end : Moment Row)
        → Lives k last further ones end → Lives k other further others other_end → others ≡ ones)

    abbrev pub AllCertified : Type 0
    AllCertified =
        Certified (rules_of k start.lines) start.room start.asked choice
        × ((found left : Moment Row) (tally : ℕ) (asked : Asked (List ℕ → ℕ)) (anew : Choice)
        → Step k found tally (Choose asked) (Chosen anew) left → Certified (rules_of k found.lines) (length found.area) asked anew)

    pub record Facts : Type 0 where
      pub plain : SameAsPlain
      pub lowest : FindsTheLowest
      pub canonical : Canonical
      pub independent : PathIndependent
      pub certified : AllCertified

  -- of every history
  abbrev pub FactsOfAll : Type 0
  FactsOfAll = (start : Start Row) (choice : Choice) (turns : List (AnyTurn Rule Header)) (answers : List Answer) (last : Moment Row) → History k start choice turns answers last → Facts start choice turns answers last
