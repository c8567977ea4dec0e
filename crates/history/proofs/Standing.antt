-- A table stands: its memory is as long as it says, and its area is the one that laying gives. What follows for its calls.
use Rattle.std.proofs.Common.{◌≡◌, ℕ, false, List, length, Ok, Err, Option, Result, not, eqb, slice_set, sym, refl, ap, ◌∙◌, subst}
use Rattle.std.proofs.lemmas.Bool.{eq-eqb, eqb-true, not-false}
use Rattle.std.proofs.lemmas.List.{length-set}
use Rattle.bits.specs.Chosen.{IsBits}
use Rattle.kinds.specs.Meaning.{Meaning, Lawful}
use Rattle.kinds.specs.Checks.{◌and_then◌}
use Rattle.kinds.specs.Lines.{rule_of, rules_of}
use Rattle.kinds.specs.declared.line.Line.{Line}
use Rattle.blocks.specs.Blocks.{Fits}
use Rattle.layout.specs.Layout.{laid}
use Rattle.layout.specs.LookUp.{looked_up, FindsLowest}
use Rattle.layout.specs.declared.spoilt.Spoilt.{Spoilt}
use Rattle.layout.proofs.Laid.{length_laid}
use Rattle.layout.proofs.Looks.{finds_lowest}
use Rattle.table.specs.Refusals.{at, told, of_spoilt}
use Rattle.table.specs.Checks.{verdict, memory_checks}
use Rattle.table.specs.Lines.{Replaced}
use Rattle.table.specs.Calls.{laid_for, looks_up}
use Rattle.table.specs.declared.refusal.Refusal.{Refusal}
use Rattle.table.specs.declared.shape.Shape.{Shape}
use Rattle.table.proofs.Lines.{rules_of_replaced}
use Rattle.history.specs.Histories.{Moment}

pub same_length : (lines count : ℕ) → not (eqb lines count) ≡ false → lines ≡ count
same_length lines count e = eqb-true lines count (not-false (eqb lines count) e)

module _ {Header Rule Row : Type 0} (k : Meaning Header Rule Row) where
  pub record Stands (room : ℕ) (m : Moment Row) : Type 0 where
    pub lines : length m.lines ≡ m.table.lines
    pub area : length m.area ≡ m.table.area
    pub long : length m.area ≡ room
    pub bits : IsBits m.table.bits
    pub is_laid : m.area ≡ laid k (rules_of k m.lines) m.table.bits room

  -- memory of the table's own lengths passes
  pub own_memory : (table : Shape) (lines area : ℕ) → lines ≡ table.lines → area ≡ table.area → verdict (memory_checks table lines area) ≡ Ok tt
  own_memory table lines area same long = rw (eq-eqb lines table.lines same, eq-eqb area table.area long) refl

  pub stands_laid : (room : ℕ) (m : Moment Row) → Stands room m → m.area ≡ laid_for k m.table m.lines m.area
  stands_laid room m s = s.is_laid ∙ ap (laid k (rules_of k m.lines) m.table.bits) (sym s.long)

  -- so a look-up finds the lowest line
  finds_told : (law : Lawful k) (rules : List (Option Rule)) (bits : List ℕ) (h : Header) (r : Result (Option ℕ × ℕ) Spoilt) → FindsLowest k rules bits h r → FindsLowest k rules bits h (told (at 0) (of_spoilt r))
  finds_told law rules bits h (Ok found) finds = finds
  finds_told law rules bits h (Err _) finds = absurd finds

  pub stands_finds : Lawful k → (room : ℕ) (m : Moment Row) → Stands room m → (h : Header) → FindsLowest k (rules_of k m.lines) m.table.bits h (looks_up k m.table h m.lines m.area)
  stands_finds law room m s h =
      let rules = rules_of k m.lines in
      let found = looked_up k rules m.table.bits h m.area in
      let own = own_memory m.table (length m.lines) (length m.area) s.lines s.area in
      subst (λ (v : Result (Unit {0}) Refusal). FindsLowest k rules m.table.bits h (told (at 0) (v and_then λ _. of_spoilt found))) (sym own)
      (finds_told law rules m.table.bits h found (finds_lowest k rules m.table.bits m.area h (stands_laid room m s) law s.bits found refl))

  -- the rules of lines of which one was replaced
  pub replaced_rules : (line : ℕ) (IsNew : Line Row → Type 0) (found left : List (Line Row)) (o : Option Rule) → ((new : Line Row) → IsNew new → rule_of k new ≡ o) → Replaced line IsNew found left → rules_of k left ≡ slice_set (rules_of k found) line o
  replaced_rules line IsNew found left o holds r = ap (rules_of k) r.2 ∙ rules_of_replaced k found line line r.0 o refl (holds r.0 r.1)

  pub replaced_length : (line : ℕ) (IsNew : Line Row → Type 0) (found left : List (Line Row)) → Replaced line IsNew found left → length left ≡ length found
  replaced_length line IsNew found left r = ap length r.2 ∙ length-set found line r.0

  -- what is left where some lines were laid for a table
  pub relaid_stands : (room : ℕ) (found left : Moment Row) → Stands room found
      → length left.lines ≡ length found.lines → left.table.lines ≡ found.table.lines → left.table.area ≡ found.table.area
      → IsBits left.table.bits → left.area ≡ laid_for k left.table left.lines found.area → Fits k (rules_of k left.lines) left.table.bits room
      → Stands room left
  relaid_stands room found left s many lines area bits is fits =
      let is_laid : left.area ≡ laid k (rules_of k left.lines) left.table.bits room = is ∙ ap (laid k (rules_of k left.lines) left.table.bits) s.long in
      let long : length left.area ≡ room = ap length is_laid ∙ length_laid k (rules_of k left.lines) left.table.bits room fits in
      record { lines = many ∙ s.lines ∙ sym lines; area = long ∙ sym s.long ∙ s.area ∙ sym area; long = long; bits = bits; is_laid = is_laid }
