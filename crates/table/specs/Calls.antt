-- The calls on books and tables: each is a relation, for all inputs, between what it found, its answer, and what it left.
--     Memory       lines, area and tally, as a call finds or leaves them; of what it isn't lent it says nothing
--     memory       these three
--     zeros        a tally of as many numbers, all zero
--     tally_left, Untouched   what a call leaves of the tally; what a refusal leaves
--     Answers      a call: its checks in order, how it tells the refusal of the first that fails, and what it does where none does
--     Opens, PutsInBook, StrikesInBook, Measures   the calls on an open book
--     Lays                                         the call on a measured book
--     Puts, Strikes, ChoosesAnew                   the calls on a laid table that change something
--     looks_up, block_found                        and those that only read
-- Assumes nothing.
use Rattle.std.specs.Prelude.{◌≡◌, ℕ, Bool, if◌then◌else◌, List, ◌++◌, map, length, replicate, Some, None, Ok, Err, IfErr, Option, Result, slice_set}
use Rattle.kinds.specs.Meaning.{Meaning}
use Rattle.kinds.specs.Checks.{◌and_then◌}
use Rattle.kinds.specs.Lines.{rules_of}
use Rattle.kinds.specs.declared.line.Line.{Line}
use Rattle.blocks.specs.Cells.{cell_of}
use Rattle.choice.specs.Choice.{IsChoice}
use Rattle.choice.specs.declared.choice.Choice.{Choice}
use Rattle.choice.specs.declared.limits.Limits.{Limits}
use Rattle.layout.specs.Layout.{laid}
use Rattle.layout.specs.LookUp.{block_in, looked_up}
use Rattle.table.specs.Refusals.{at, told, of_spoilt, began}
use Rattle.table.specs.Checks.{verdict, count_checks, lines_checks, memory_checks, area_checks, put_checks, strike_checks, room_checks, choice_checks}
use Rattle.table.specs.Lines.{emptied, Holds, IsEmptied, Replaced}
use Rattle.table.specs.declared.refusal.Refusal.{Refusal}
use Rattle.table.specs.declared.refusal.Fault.{Fault}
use Rattle.table.specs.declared.shape.Shape.{Shape}
use Rattle.table.specs.declared.open.OpenBook.{OpenBook}

pub record Memory (Row : Type 0) : Type 0 where
  pub lines : List (Line Row)
  pub area : List ℕ
  pub tally : List ℕ

abbrev pub memory : {Row : Type 0} → List (Line Row) → (area tally : List ℕ) → Memory Row
memory lines area tally = record { lines = lines; area = area; tally = tally }

abbrev pub zeros : List ℕ → List ℕ
zeros tally = replicate (length tally) 0

-- the tally of a call that ended so: all zero where counting had begun, and else as found
abbrev pub tally_left : {A : Type 0} → Result A Refusal → List ℕ → List ℕ
tally_left (Ok _) tally = zeros tally
tally_left (Err refusal) tally = if began refusal then zeros tally else tally

-- what a refusal leaves: lines and area as found, and the tally too unless counting had begun
pub record Untouched {Row : Type 0} (refusal : Refusal) (found left : Memory Row) : Type 0 where
  pub lines : left.lines ≡ found.lines
  pub area : left.area ≡ found.area
  pub tally : left.tally ≡ tally_left {A = Unit {0}} (Err refusal) found.tally

module _ {Row A F : Type 0} (tell : Refusal → F) (Does : A → Type 0) (found left : Memory Row) where
  abbrev pub Answers : Result (Unit {0}) Refusal → Result A F → Type 0
  Answers (Ok _) (Ok answer) = Does answer
  Answers (Ok _) (Err fault) = ⊥
  Answers (Err refusal) (Ok answer) = ⊥
  Answers (Err refusal) (Err fault) = (fault ≡ tell refusal) × Untouched refusal found left

-- the numbers of a table
pub record IsShape (count room : ℕ) (chosen : List ℕ) (table : Shape) : Type 0 where
  pub lines : table.lines ≡ count
  pub area : table.area ≡ room
  pub bits : table.bits ≡ chosen

-- the lines lent are a book's from now on, and empty
abbrev pub Opens : {K Row : Type 0} → Memory Row → Memory Row → Result (OpenBook K) Fault → Type 0
Opens found left answer = Answers (at 0) (λ book. (book.lines ≡ length found.lines) × (left.lines ≡ map emptied found.lines)) found left (verdict (count_checks (length found.lines))) answer

module _ {Header Rule Row : Type 0} (k : Meaning Header Rule Row) where
  module _ (opened : ℕ) (found left : Memory Row) {F : Type 0} (tell : Refusal → F) where
    abbrev pub PutsInBook : ℕ → Rule → Result (Unit {0}) F → Type 0
    PutsInBook line rule =
        Answers tell (λ _. Replaced line (Holds k rule) found.lines left.lines) found left
        (verdict (lines_checks opened (length found.lines) ++ put_checks (rules_of k found.lines) line))

    abbrev pub StrikesInBook : ℕ → Result (Unit {0}) F → Type 0
    StrikesInBook line =
        Answers tell (λ _. Replaced line (IsEmptied found.lines line) found.lines left.lines) found left
        (verdict (lines_checks opened (length found.lines) ++ strike_checks (rules_of k found.lines) line))

  -- for an area of so many places, bits are chosen by a judge
  module _ (opened room : ℕ) (judge : List ℕ → ℕ) (limits : Limits) (found left : Memory Row) where
    pub record Measured (shape : Shape) (chosen : Choice) : Type 0 where
      pub choice : IsChoice k (rules_of k found.lines) room judge limits chosen
      pub table : IsShape opened room chosen.bits shape
      pub tally : left.tally ≡ zeros found.tally

    -- `view` takes the table's numbers and the choice from what the call gives
    abbrev pub Measures : {A F : Type 0} → (A → Shape × Choice) → (Refusal → F) → Result A F → Type 0
    Measures view tell =
        Answers tell (λ made. Measured (view made).0 (view made).1) found left
        (verdict (lines_checks opened (length found.lines) ++ choice_checks k (rules_of k found.lines) limits (length found.tally) room))

  -- the area that laying some lines for a table leaves
  abbrev pub laid_for : Shape → List (Line Row) → (area : List ℕ) → List ℕ
  laid_for table lines area = laid k (rules_of k lines) table.bits (length area)

  module _ (table : Shape) (found left : Memory Row) where
    -- the table has the numbers that were measured, and its area is laid
    pub record Laid (made : Shape) : Type 0 where
      pub shape : made ≡ table
      pub lines : left.lines ≡ found.lines
      pub area : left.area ≡ laid_for table found.lines found.area
      pub tally : left.tally ≡ zeros found.tally

    -- `view` takes the table's numbers from what the call gives
    abbrev pub Lays : {A F : Type 0} → (A → Shape) → (Refusal → F) → Result A F → Type 0
    Lays view tell =
        Answers tell (λ made. Laid (view made)) found left
        (verdict (memory_checks table (length found.lines) (length found.area) ++ room_checks k (rules_of k found.lines) table.bits (length found.tally) (length found.area)))

  module _ (table : Shape) (found : Memory Row) where
    -- the checks of a change that would leave the lines with some rules
    abbrev change_checks : List (Bool × Refusal) → List (Option Rule) → List (Bool × Refusal)
    change_checks own rules = memory_checks table (length found.lines) (length found.area) ++ own ++ room_checks k rules table.bits (length found.tally) (length found.area)

    -- of a put and of a strike
    abbrev pub table_put_checks : ℕ → Rule → List (Bool × Refusal)
    table_put_checks line rule = change_checks (put_checks (rules_of k found.lines) line) (slice_set (rules_of k found.lines) line (Some rule))

    abbrev pub table_strike_checks : ℕ → List (Bool × Refusal)
    table_strike_checks line = change_checks (strike_checks (rules_of k found.lines) line) (slice_set (rules_of k found.lines) line None)

    module _ (left : Memory Row) where
      -- a line is replaced, and the area is as laying the lines so changed leaves it
      pub record Relaid (line : ℕ) (IsNew : Line Row → Type 0) : Type 0 where
        pub lines : Replaced line IsNew found.lines left.lines
        pub area : left.area ≡ laid_for table left.lines found.area
        pub tally : left.tally ≡ zeros found.tally

      module _ {F : Type 0} (tell : Refusal → F) where
        abbrev pub Puts : ℕ → Rule → Result (Unit {0}) F → Type 0
        Puts line rule = Answers tell (λ _. Relaid line (Holds k rule)) found left (verdict (table_put_checks line rule))

        abbrev pub Strikes : ℕ → Result (Unit {0}) F → Type 0
        Strikes line = Answers tell (λ _. Relaid line (IsEmptied found.lines line)) found left (verdict (table_strike_checks line))

      -- the lines present are measured and laid
      module _ (judge : List ℕ → ℕ) (limits : Limits) (after : Shape) where
        pub record Anew (chosen : Choice) : Type 0 where
          pub choice : IsChoice k (rules_of k found.lines) (length found.area) judge limits chosen
          pub shape : IsShape table.lines table.area chosen.bits after
          pub lines : left.lines ≡ found.lines
          pub area : left.area ≡ laid_for after found.lines found.area
          pub tally : left.tally ≡ zeros found.tally

        pub record ChoosesAnew (answer : Result Choice Fault) : Type 0 where
          pub answers : Answers (at 0) Anew found left (verdict (memory_checks table (length found.lines) (length found.area) ++ choice_checks k (rules_of k found.lines) limits (length found.tally) (length found.area))) answer
          -- a refusal leaves the table as it was
          pub kept : IfErr answer (λ _. after ≡ table)

  module _ (table : Shape) (header : Header) where
    -- where the area is found spoilt, that is told as other memory
    abbrev pub looks_up : List (Line Row) → (area : List ℕ) → Result (Option ℕ × ℕ) Fault
    looks_up lines area = told (at 0) (verdict (memory_checks table (length lines) (length area)) and_then λ _. of_spoilt (looked_up k (rules_of k lines) table.bits header area))

    abbrev pub block_found : (area : List ℕ) → Result (List ℕ) Fault
    block_found area = told (at 0) (verdict (area_checks table (length area)) and_then λ _. of_spoilt (block_in (length table.bits) area (cell_of k table.bits header)))
