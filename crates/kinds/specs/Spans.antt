-- Spans of the values that some digits of a number have together.
--     in_span   a number's digits have one of the values: between two ends, or around them
--     in_both   the same for two spans
-- Assumes nothing.
use Rattle.std.specs.Prelude.{ℕ, Bool, if◌then◌else◌, ◌&&◌, ◌||◌, bit_and, nat_le}
use Rattle.kinds.specs.declared.spans.Span.{Span}

abbrev pub in_span : Span → ℕ → Bool
in_span s cell =
    let value = bit_and cell s.digits in
    if s.around then nat_le s.from value || nat_le value s.to else nat_le s.from value && nat_le value s.to

abbrev pub in_both : (first second : Span) → ℕ → Bool
in_both first second cell = in_span first cell && in_span second cell
