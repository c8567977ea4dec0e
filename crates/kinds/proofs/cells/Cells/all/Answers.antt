use Rattle.std.proofs.Common.{ℕ, List, length, ◌^◌, ap, ◌∙◌}
use Rattle.std.specs.List.{range_with_len}
use Rattle.kinds.proofs.Whole.{all_cells, whole_cells}
use Rattle.kinds.proofs.cells.Cells.all.Goals as goal

pub returns : goal.returns
returns c = whole_cells c.make_masked.result ∙ c.make_masked.ensures ∙ all_cells c.new.result ∙ ap (λ (bits : List ℕ). range_with_len 0 (2 ^ length bits)) c.new.ensures
