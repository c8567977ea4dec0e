use Rattle.std.proofs.Common.{subst, sym}
use Rattle.kinds.specs.Lines.{rules_of, Lowest}
use Rattle.kinds.proofs.Lowest.{lowest_position}
use Rattle.kinds.proofs.search.first_match.Goals as goal

pub returns-clause-answer : goal.returns-clause-answer
returns-clause-answer g c =
    subst (Lowest g.K.Kind.meaning (rules_of g.K.Kind.meaning c.args.lines.now) c.args.header.now) (sym c.first-line.ensures)
    (lowest_position g.K.Kind.meaning c.args.header.now c.args.lines.now)
