-- A row whose value lies inside its mask holds the rule of its numbers.
use Rattle.std.proofs.Common.{◌≡◌, Bool, true, false, Some, Ok, refl, ap}
use Rattle.std.specs.Result.{result_ok}
use mathlib.Core.Bool.{Bool-set}
use Rattle.std.proofs.lemmas.Bool.{both_ways}
use Rattle.bridge.specs.Inside.{inside}
use Rattle.bridge.specs.Bridge.{rule_if, rule_in}
use Rattle.bridge.specs.declared.rule.Rule.{Rule}
use Rattle.bridge.specs.declared.rule.Row.{Row}

module _ (row : Row) where
  abbrev pub rule : inside row.value row.mask ≡ true → Rule
  rule e = record { value = row.value; mask = row.mask; inside = e }

  made_if : (t : Bool) (p : inside row.value row.mask ≡ t) (e : inside row.value row.mask ≡ true) → rule_if row t p ≡ Ok (rule e)
  made_if true p e = ap (λ (x : inside row.value row.mask ≡ true). Ok (rule x)) (Bool-set _ _ p e)
  made_if false p e = absurd (both_ways (inside row.value row.mask) p e)

  pub made : (e : inside row.value row.mask ≡ true) → rule_in row ≡ Ok (rule e)
  made e = made_if (inside row.value row.mask) refl e

-- the row of a rule's numbers holds that rule
pub row_holds : (r : Rule) → result_ok (rule_in (record { value = r.value; mask = r.mask })) ≡ Some r
row_holds r = ap result_ok (made _ r.inside)
