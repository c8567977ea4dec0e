-- Numbers that pass their checks make the part that they name, whichever proofs show it.
use Rattle.std.proofs.Common.{◌≡◌, ◌-◌, ◌%◌, ◌^◌, ◌≤◌, true, Some, Ok, ap, ◌∙◌}
use Rattle.std.specs.Result.{result_ok}
use mathlib.Core.Bool.{Bool-set, Bool-discrete}
use mathlib.Core.HLevel.{hedberg}
use native.Mathlib.Bridge.{le_prop}
use native.Mathlib.Decide.{dec_le, ℕ_discrete}
use lib.Bits.{bit_and}
use Rattle.routed.specs.Prefixes.{prefix_if, prefix_of}
use Rattle.routed.specs.Ranges.{range_if, range_of}
use Rattle.routed.specs.Protocols.{whole, protocol_if, protocol_of}
use Rattle.routed.specs.declared.prefix.Prefix.{Prefix}
use Rattle.routed.specs.declared.ports.PortRange.{PortRange}
use Rattle.routed.specs.declared.protocol.ProtocolMatch.{ProtocolMatch}
use Rattle.routed.specs.declared.rule.Rule.{Rule}
use Rattle.routed.specs.declared.rule.Row.{Row}
use Rattle.routed.specs.Routed.{rule_in}

module _ (p : Prefix) where
  abbrev prefix : p.length ≤ 32 → p.address % 2 ^ (32 - p.length) ≡ 0 → Prefix
  prefix short clean = record { address = p.address; length = p.length; short = short; clean = clean }

  prefix_if_lem : (short : Dec (p.length ≤ 32)) (clean : Dec (p.address % 2 ^ (32 - p.length) ≡ 0)) → prefix_if p.address p.length short clean ≡ Ok p
  prefix_if_lem (no n) clean = absurd (n p.short)
  prefix_if_lem (yes s) (no n) = absurd (n p.clean)
  prefix_if_lem (yes s) (yes c) =
      ap (λ (x : p.length ≤ 32). Ok (prefix x c)) (le_prop s p.short)
      ∙ ap (λ (x : p.address % 2 ^ (32 - p.length) ≡ 0). Ok (prefix p.short x)) (hedberg ℕ_discrete _ _ c p.clean)

  pub prefix_made : prefix_of p.address p.length ≡ Ok p
  prefix_made = prefix_if_lem (dec_le p.length 32) (ℕ_discrete (p.address % 2 ^ (32 - p.length)) 0)

module _ (r : PortRange) where
  abbrev range : r.low ≤ r.high → PortRange
  range ordered = record { low = r.low; high = r.high; ordered = ordered }

  range_if_lem : (ordered : Dec (r.low ≤ r.high)) → range_if r.low r.high ordered ≡ Ok r
  range_if_lem (no n) = absurd (n r.ordered)
  range_if_lem (yes o) = ap (λ (x : r.low ≤ r.high). Ok (range x)) (le_prop o r.ordered)

  pub range_made : range_of r.low r.high ≡ Ok r
  range_made = range_if_lem (dec_le r.low r.high)

module _ (p : ProtocolMatch) where
  abbrev protocol : whole p.mask ≡ true → bit_and p.value p.mask ≡ p.value → ProtocolMatch
  protocol all inside = record { value = p.value; mask = p.mask; whole = all; inside = inside }

  protocol_if_lem : (all : Dec (whole p.mask ≡ true)) (inside : Dec (bit_and p.value p.mask ≡ p.value)) → protocol_if p.value p.mask all inside ≡ Ok p
  protocol_if_lem (no n) inside = absurd (n p.whole)
  protocol_if_lem (yes w) (no n) = absurd (n p.inside)
  protocol_if_lem (yes w) (yes i) =
      ap (λ (x : whole p.mask ≡ true). Ok (protocol x i)) (Bool-set _ _ w p.whole)
      ∙ ap (λ (x : bit_and p.value p.mask ≡ p.value). Ok (protocol p.whole x)) (hedberg ℕ_discrete _ _ i p.inside)

  pub protocol_made : protocol_of p.value p.mask ≡ Ok p
  protocol_made = protocol_if_lem (Bool-discrete (whole p.mask) true) (ℕ_discrete (bit_and p.value p.mask) p.value)

-- the numbers of a rule
abbrev pub numbers : Rule → Row
numbers r = record { source = r.source.address; source_length = r.source.length; destination = r.destination.address; destination_length = r.destination.length; source_low = r.source_ports.low; source_high = r.source_ports.high; destination_low = r.destination_ports.low; destination_high = r.destination_ports.high; protocol = r.protocol.value; mask = r.protocol.mask }

pub rule_made : (r : Rule) → rule_in (numbers r) ≡ Ok r
rule_made r =
    rw (prefix_made r.source, prefix_made r.destination, range_made r.source_ports, range_made r.destination_ports, protocol_made r.protocol)

-- the row of a rule's numbers holds that rule
pub row_holds : (r : Rule) → result_ok (rule_in (numbers r)) ≡ Some r
row_holds r = ap result_ok (rule_made r)
