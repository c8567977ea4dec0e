-- The seven bridge lines.
--     first_bytes    the first byte of each line's value and of its mask; the other bytes are zero
--     marked_lines   the lines themselves, all marked
--     seven          the rules that their rows hold
--     without        the same with some lines struck
-- Assumes nothing.
use Rattle.std.specs.Prelude.{ℕ, List, [], ◌∷◌, map, None, Option, slice_set}
use Rattle.std.specs.Result.{result_ok}
use Rattle.kinds.specs.declared.line.Line.{Line}
use Rattle.bridge.specs.Bridge.{rule_in}
use Rattle.bridge.specs.declared.rule.Rule.{Rule}
use Rattle.bridge.specs.declared.rule.Row.{Row}
use Rattle.seven_lines.specs.Beginnings.{row_beginning, line_beginning}

abbrev pub first_bytes : List (ℕ × ℕ)
first_bytes = (0x20, 0xE0) ∷ (0x40, 0xF0) ∷ (0x80, 0xD0) ∷ (0xF0, 0xF0) ∷ (0xE0, 0xE0) ∷ (0x80, 0xB0) ∷ (0x00, 0x00) ∷ []

abbrev pub marked_lines : List (Line Row)
marked_lines = map (λ bytes. line_beginning bytes.0 bytes.1) first_bytes

abbrev pub seven : List (Option Rule)
seven = map (λ bytes. result_ok (rule_in (row_beginning bytes.0 bytes.1))) first_bytes

abbrev pub without : List ℕ → List (Option Rule)
without [] = seven
without (line ∷ lines) = slice_set (without lines) line None
