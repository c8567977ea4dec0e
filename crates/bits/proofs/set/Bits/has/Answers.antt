use Rattle.std.proofs.Common.{eqb, rules, ◌∙◌}
use Rattle.std.proofs.lemmas.Iterator.Consumers.{YieldsList-from_first}
use Rattle.std.proofs.lemmas.Iterator.Search.{any_from_yields_List}
use borrow.Author.Tests.{tests}
use Rattle.bits.proofs.Members.{list_any-member}
use Rattle.bits.proofs.set.Bits.has.Goals as goal

pub returns : goal.returns
returns c =
    let runs = YieldsList-from_first (λ bit. bit) (λ left. left) c.args.self.now c.iter.ensures.left in
    any_from_yields_List (λ own. eqb own c.args.bit) _ _ _ c.any.ensures.ran runs (λ own found f called. search (rules, tests))
    ∙ list_any-member c.args.bit c.args.self.now
