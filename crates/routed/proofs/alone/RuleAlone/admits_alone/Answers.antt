use Rattle.std.proofs.Common.{◌≡◌, ◌-◌, arith}
use Rattle.std.proofs.lemmas.Bool.Decides.{nat_tests}
use Rattle.routed.proofs.alone.RuleAlone.admits_alone.Goals as goal

pub returns-in-64-to-79 : goal.returns-in-64-to-79
returns-in-64-to-79 c =
    let place : c.args.b - 64 ≡ c.args.b - 32 - 32 = omega arith in
    rw (c.admits-in-64-to-79.ensures, place) (grind (arith, nat_tests))
