use Rattle.std.proofs.Common.{ℕ, max, ap, ◌∙◌, arith}
use Rattle.std.proofs.lemmas.Nat.{one_shl}
use Rattle.routed.proofs.TurnsFound.{one_or_turns, place_few}
use Rattle.routed.proofs.ports.PortRange.turn.Goals as goal

pub returns-clause-place : goal.returns-clause-place
returns-clause-place c =
    place_few c.args.self.now.low c.args.self.now.high c.ilog2-place.result c.args.self.now.ordered (omega arith) (omega arith)

pub returns-clause-turns : goal.returns-clause-turns
returns-clause-turns c =
    let is = c.max.ensures ∙ ap (λ (n : ℕ). max n 1) c.from.ensures in
    rw (one_shl c.ilog2-place.result 32 (omega arith), c.from-2.ensures, c.from-3.ensures)
    (one_or_turns c.args.self.now.low c.args.self.now.high c.ilog2-place.result c.args.self.now.ordered (omega arith) (omega arith))
