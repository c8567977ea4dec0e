-- How a kind's rules and headers are read from records.
--     Reading                          the row of a record, if it is one of the kind's; the rule of a row; the header of a packet or a frame
--     routed_reading, bridge_reading   that of each kind
-- Assumes nothing.
use Rattle.std.specs.Prelude.{ℕ, List, Some, None, Option, Result}
use Rattle.routed.specs.Packets.{header_of as packet_header}
use Rattle.routed.specs.Routed.{rule_in as routed_rule}
use Rattle.routed.specs.declared.packet.Header.{Header as RoutedHeader}
use Rattle.routed.specs.declared.rule.Rule.{Rule as RoutedRule}
use Rattle.routed.specs.declared.rule.Row.{Row as RoutedRow}
use Rattle.bridge.specs.Frames.{header_of as frame_header}
use Rattle.bridge.specs.Bridge.{rule_in as bridge_rule}
use Rattle.bridge.specs.declared.frame.Header.{Header as BridgeHeader}
use Rattle.bridge.specs.declared.rule.Rule.{Rule as BridgeRule}
use Rattle.bridge.specs.declared.rule.Row.{Row as BridgeRow}
use Rattle.table.specs.Refusals.{told}
use Rattle.records.specs.declared.request.Row.{Row as RecordRow}
use Rattle.records.specs.declared.request.Row.TheVariants as row
use Rattle.job.specs.declared.fault.Fault.{Fault}
use Rattle.job.specs.declared.fault.Fault.TheVariants.{Routed, Bridge}

pub record Reading (Header Rule Row : Type 0) : Type 0 where
  pub row_in : RecordRow → Option Row
  pub rule_of : Row → Result Rule Fault
  pub header_of : List ℕ → Result Header Fault

abbrev pub routed_row_in : RecordRow → Option RoutedRow
routed_row_in (row.Routed numbers) = Some numbers
routed_row_in (row.Bridge _) = None

abbrev pub routed_reading : Reading RoutedHeader RoutedRule RoutedRow
routed_reading = record { row_in = routed_row_in; rule_of = λ numbers. told Routed (routed_rule numbers); header_of = λ packet. told Routed (packet_header packet) }

abbrev pub bridge_row_in : RecordRow → Option BridgeRow
bridge_row_in (row.Bridge numbers) = Some numbers
bridge_row_in (row.Routed _) = None

abbrev pub bridge_reading : Reading BridgeHeader BridgeRule BridgeRow
bridge_reading = record { row_in = bridge_row_in; rule_of = λ numbers. told Bridge (bridge_rule numbers); header_of = λ packet. told Bridge (frame_header packet) }
