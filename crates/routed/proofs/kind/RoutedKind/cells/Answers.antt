use Rattle.std.proofs.Common.{filter, ap, ◌∙◌}
use Rattle.kinds.specs.Spans.{in_both}
use Rattle.routed.proofs.Told.{cells_told}
use Rattle.routed.proofs.kind.RoutedKind.cells.Goals as goal

pub returns-clause-cells : goal.returns-clause-cells
returns-clause-cells c =
    let source = c.span-source.result in
    let destination = c.span-destination.result in
    c.new.ensures
    ∙ ap (filter (in_both source destination)) c.make_masked-masked.ensures
    ∙ cells_told c.args.rule.now c.args.chosen.now source destination c.span-source.ensures c.span-destination.ensures
