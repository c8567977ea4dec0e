-- A line of an open book was replaced.
use Rattle.std.proofs.Common.{◌≡◌, ℕ, [], ◌++◌, List, length, Ok, slice_set}
use Rattle.kinds.specs.Meaning.{Meaning}
use Rattle.kinds.specs.Lines.{rules_of}
use Rattle.kinds.specs.declared.line.Line.{Line}
use Rattle.table.specs.Checks.{verdict, lines_checks, put_checks, strike_checks}
use Rattle.table.specs.Lines.{Holds, IsEmptied, Replaced}
use Rattle.table.specs.Calls.{memory, PutsInBook, StrikesInBook}
use Rattle.table.specs.declared.refusal.Refusal.{Refusal}
use Rattle.table.proofs.Calls.{done}
use Rattle.table.proofs.Lines.{replaced}

module _ {Header Rule Row : Type 0} (k : Meaning Header Rule Row) (opened line place : ℕ) (lines : List (Line Row)) (new : Line Row) where
  pub put_done : (rule : Rule) → verdict (lines_checks opened (length lines) ++ put_checks (rules_of k lines) line) ≡ Ok tt → place ≡ line → Holds k rule new → PutsInBook k opened (memory lines [] []) (memory (slice_set lines place new) [] []) {F = Refusal} (λ refusal. refusal) line rule (Ok tt)
  put_done rule passed at holds = done (λ (refusal : Refusal). refusal) (λ _. Replaced line (Holds k rule) lines (slice_set lines place new)) (memory lines [] []) (memory (slice_set lines place new) [] []) (verdict (lines_checks opened (length lines) ++ put_checks (rules_of k lines) line)) tt passed (replaced (Holds k rule) lines place line new at holds)

  pub strike_done : verdict (lines_checks opened (length lines) ++ strike_checks (rules_of k lines) line) ≡ Ok tt → place ≡ line → IsEmptied lines line new → StrikesInBook k opened (memory lines [] []) (memory (slice_set lines place new) [] []) {F = Refusal} (λ refusal. refusal) line (Ok tt)
  strike_done passed at emptied = done (λ (refusal : Refusal). refusal) (λ _. Replaced line (IsEmptied lines line) lines (slice_set lines place new)) (memory lines [] []) (memory (slice_set lines place new) [] []) (verdict (lines_checks opened (length lines) ++ strike_checks (rules_of k lines) line)) tt passed (replaced (IsEmptied lines line) lines place line new at emptied)
