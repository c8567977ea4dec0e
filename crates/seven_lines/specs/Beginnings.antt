-- Fourteen bytes, of which all but the first are zero.
--     beginning_with     the bytes by their first
--     line_beginning     a marked bridge line by the first byte of its value and of its mask
--     header_beginning   a frame's header by its first byte
-- Assumes nothing.
use Rattle.std.specs.Prelude.{ℕ, ◌*◌, ◌^◌, true}
use Rattle.kinds.specs.declared.line.Line.{Line}
use Rattle.bridge.specs.declared.octets.Octets.{Octets}
use Rattle.bridge.specs.declared.frame.Header.{Header}
use Rattle.bridge.specs.declared.rule.Row.{Row}

abbrev pub beginning_with : ℕ → Octets
beginning_with byte = record { first = byte * 2 ^ 56; middle = 0; last = 0 }

abbrev pub row_beginning : ℕ → ℕ → Row
row_beginning value mask = record { value = beginning_with value; mask = beginning_with mask }

abbrev pub line_beginning : ℕ → ℕ → Line Row
line_beginning value mask = record { mark = true; row = row_beginning value mask }

abbrev pub header_beginning : ℕ → Header
header_beginning byte = record { octets = beginning_with byte }
