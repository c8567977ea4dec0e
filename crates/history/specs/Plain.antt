-- The plain book: what the calls on a table mean, without lent memory, area or marks.
--     Plain          a rule or none for each line, and the chosen bits
--     plain_checks   what it refuses a call, read off its rules and bits, and off the lengths of area and tally
--     Says           one call on it: its answer, and the book that is left
--     Tells          a list of calls in order, and their answers
-- Assumes nothing.
use Rattle.std.specs.Prelude.{◌≡◌, ℕ, Bool, List, [], ◌∷◌, ◌++◌, Some, None, Ok, Err, Option, slice_set}
use Rattle.kinds.specs.Meaning.{Meaning}
use Rattle.choice.specs.Choice.{IsChoice}
use Rattle.choice.specs.declared.choice.Choice.{Choice}
use Rattle.layout.specs.LookUp.{Found as FindsLine}
use Rattle.table.specs.Refusals.{at}
use Rattle.table.specs.Checks.{verdict, put_checks, strike_checks, room_checks, choice_checks}
use Rattle.table.specs.declared.refusal.Refusal.{Refusal}
use Rattle.history.specs.Turns.{AnyCall, AnyTurn, line_of}
use Rattle.history.specs.declared.turn.Asked.{Asked}
use Rattle.history.specs.declared.turn.Call.TheVariants.{Put, Strike, Choose, LookUp}
use Rattle.history.specs.declared.turn.Answer.{Answer}
use Rattle.history.specs.declared.turn.Answer.TheVariants.{Done, Chosen, Found, Refused}

pub record Plain (Rule : Type 0) : Type 0 where
  pub rules : List (Option Rule)
  pub bits : List ℕ

module _ {Rule : Type 0} (p : Plain Rule) where
  -- the book with another rule, or none, in a line
  abbrev pub with_rule : ℕ → Option Rule → Plain Rule
  with_rule line rule = record { rules = slice_set p.rules line rule; bits = p.bits }

  -- the book with other bits
  abbrev pub with_bits : List ℕ → Plain Rule
  with_bits bits = record { rules = p.rules; bits = bits }

module _ {Header Rule Row : Type 0} (k : Meaning Header Rule Row) (room : ℕ) where
  abbrev pub plain_checks : Plain Rule → (tally : ℕ) → AnyCall Rule Header → List (Bool × Refusal)
  plain_checks p tally (Put line rule) = put_checks p.rules line ++ room_checks k (slice_set p.rules line (Some rule)) p.bits tally room
  plain_checks p tally (Strike line) = strike_checks p.rules line ++ room_checks k (slice_set p.rules line None) p.bits tally room
  plain_checks p tally (Choose asked) = choice_checks k p.rules asked.limits tally room
  plain_checks p tally (LookUp header) = []

  pub data Says (p : Plain Rule) (tally : ℕ) : AnyCall Rule Header → Answer → Plain Rule → Type 0 where
    -- what is refused changes nothing
    refuses : {call : AnyCall Rule Header} {refusal : Refusal} → verdict (plain_checks p tally call) ≡ Err refusal → Says p tally call (Refused (at (line_of call) refusal)) p
    -- a put gives its line the rule, and a strike empties it
    puts : {line : ℕ} {rule : Rule} → verdict (plain_checks p tally (Put line rule)) ≡ Ok tt → Says p tally (Put line rule) Done (with_rule p line (Some rule))
    strikes : {line : ℕ} → verdict (plain_checks p tally (Strike line)) ≡ Ok tt → Says p tally (Strike line) Done (with_rule p line None)
    -- choosing anew takes the bits reached for the present lines
    chooses : {asked : Asked (List ℕ → ℕ)} {choice : Choice} → verdict (plain_checks p tally (Choose asked)) ≡ Ok tt → IsChoice k p.rules room asked.judge asked.limits choice → Says p tally (Choose asked) (Chosen choice) (with_bits p choice.bits)
    -- the lowest filled line whose rule matches
    looks_up : {header : Header} {line : Option ℕ} {tried : ℕ} → FindsLine k p.rules p.bits header line tried → Says p tally (LookUp header) (Found line tried) p

  pub data Tells (p : Plain Rule) : List (AnyTurn Rule Header) → List Answer → Plain Rule → Type 0 where
    nothing_yet : Tells p [] [] p
    one_more : {turns : List (AnyTurn Rule Header)} {answers : List Answer} {q r : Plain Rule} {turn : AnyTurn Rule Header} {answer : Answer} → Tells p turns answers q → Says q turn.tally turn.call answer r → Tells p (turns ++ turn ∷ []) (answers ++ answer ∷ []) r
