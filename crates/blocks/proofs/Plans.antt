-- A plan's lines and their rules, place by place.
use Rattle.std.proofs.Common.{◌≡◌, ℕ, zero, suc, ◌^◌, ◌≤◌, false, List, [], ◌∷◌, length, get_or, slice_get, slice_index_or, None, Some, Option, filter, sum, refl, ap, ◌∙◌, arith}
use Rattle.std.specs.List.{range_with_len}
use Rattle.std.proofs.lemmas.List.{length-map}
use Rattle.std.specs.Option.{MatchOption}
use Rattle.std.specs.Prelude.{IfSome}
use Rattle.kinds.specs.Values.{cells_of}
use Rattle.kinds.specs.Meaning.{Meaning}
use Rattle.kinds.specs.Lines.{rule_of, rules_of}
use Rattle.kinds.specs.declared.line.Line.{Line}
use Rattle.blocks.specs.Blocks.{admits_line, cells_naming, sizes}
use Rattle.blocks.specs.Changes.{changed}
use Rattle.blocks.specs.Plans.{rules_in}
use Rattle.blocks.specs.declared.plan.Plan.{Plan}
use Rattle.blocks.proofs.Changes.{length-changed}
use Rattle.blocks.proofs.Sizes.{entries_bound}

-- the rule at a place is that of the line that is got there, and none where no line is
module _ {Header Rule Row : Type 0} (k : Meaning Header Rule Row) where
  pub ruled : (lines : List (Line Row)) (i : ℕ) (r : Option Rule) → MatchOption (slice_get lines i) (r ≡ None) (λ line. r ≡ rule_of k line) → r ≡ get_or (rules_of k lines) i None
  ruled [] i r told = told
  ruled (first ∷ lines) zero r told = told
  ruled (first ∷ lines) (suc i) r told = ruled lines i r told

  none_of : (cells : List ℕ) → [] ≡ filter (λ cell. false) cells
  none_of [] = refl
  none_of (cell ∷ cells) = none_of cells

  -- no block names a line without a rule
  pub none_naming : (rules : List (Option Rule)) (bits : List ℕ) (line : ℕ) → None ≡ get_or rules line None → [] ≡ cells_naming k rules bits line
  none_naming rules bits line is = none_of (range_with_len 0 (2 ^ length bits)) ∙ ap (λ (o : Option Rule). filter (admits_line k o bits) (range_with_len 0 (2 ^ length bits))) is

-- a plan has as many rules as lines, and so few that all entries of its table together are few
module _ {Header Rule Row : Type 0} (k : Meaning Header Rule Row) (plan : Plan Row) where
  pub length-rules_in : length (rules_in k plan) ≡ length plan.lines.now
  length-rules_in = length-map (changed plan.change plan.lines.now) (rule_of k) ∙ length-changed plan.change plan.lines.now

  -- the cells of a line as such
  pub the_cells : (line : ℕ) → cells_naming k (rules_in k plan) plan.bits.now line ≡ cells_naming k (rules_in k plan) plan.bits.now line
  the_cells line = refl

  pub few_entries : 2 ^ length plan.bits.now ≤ 4096 → sum (sizes k (rules_in k plan) plan.bits.now) ≤ 2 ^ 26
  few_entries few = entries_bound k (rules_in k plan) plan.bits.now few (omega (arith, length-rules_in, plan.few))

-- the cells that a kind tells of a line's rule
pub told_naming : {Header Rule Row : Type 0} (k : Meaning Header Rule Row) (rules : List (Option Rule)) (bits chosen : List ℕ) (place : ℕ) (r : Rule) (told : Option (List ℕ)) → Some r ≡ slice_index_or rules place None → chosen ≡ bits → IfSome told (λ cells. cells ≡ cells_of (k.admits r) chosen) → IfSome told (λ cells. cells ≡ cells_naming k rules bits place)
told_naming k rules bits chosen place r None is same e = tt
told_naming k rules bits chosen place r (Some cells) is same e =
    e ∙ ap (cells_of (k.admits r)) same ∙ ap (λ line. filter (admits_line k line bits) (range_with_len 0 (2 ^ length bits))) is
