-- The routed kind's law, field by field.
-- Proofs alone, which the code names: nothing here has to be believed.
use Rattle.std.specs.Prelude.{◌≡◌, ℕ, Bool, false, List, ◌+◌, ◌-◌, ◌/◌, ◌%◌, ◌^◌, ◌<◌, ◌≤◌, true, nat_eq, nat_lt, refl}
use Rattle.std.proofs.Common.{ap, sym, ◌∙◌, arith}
use Rattle.std.proofs.lemmas.Nat.{shr-shr}
use Rattle.std.proofs.lemmas.Bool.{and_parts, eqb-true, ltb-true}
use Rattle.kinds.specs.Meaning.{Lawful}
use Rattle.kinds.specs.Bits.{bit_of}
use Rattle.kinds.specs.Fields.{LawfulField, field}
use Rattle.kinds.specs.Values.{each, with_values}
use Rattle.kinds.proofs.Under.{own_bit, mask_agrees}
use Rattle.kinds.proofs.Rows.{fields_lawful, each_own}
use Rattle.routed.specs.Packets.{port_bits}
use Rattle.routed.specs.Prefixes.{in_prefix, prefix_admits}
use Rattle.routed.specs.Ranges.{in_range, range_admits}
use Rattle.routed.specs.Routed.{fields, side_by_side, routed}
use Rattle.routed.specs.declared.prefix.Prefix.{Prefix}
use Rattle.routed.specs.declared.ports.PortRange.{PortRange}
use Rattle.routed.specs.Protocols.{is_protocol, protocol_admits}
use Rattle.routed.specs.Exact.{range_decides, some_port}
use Rattle.routed.specs.declared.packet.Header.{Header}
use Rattle.routed.specs.declared.protocol.ProtocolMatch.{ProtocolMatch}
use Rattle.routed.specs.declared.rule.Rule.{Rule}
use Rattle.std.specs.Bool.{beq}

-- bit b lies in the first `length` bits
shifted : (n length b : ℕ) → b < length → length ≤ 32 → n / 2 ^ (31 - b) ≡ n / 2 ^ (32 - length) / 2 ^ (length - 1 - b)
shifted n length b lt le =
    let e : 31 - b ≡ (32 - length) + (length - 1 - b) = omega arith in
    ap (λ (k : ℕ). n / 2 ^ k) e ∙ sym (shr-shr n (32 - length) (length - 1 - b))

prefix_agrees : (p : Prefix) (n : ℕ) → in_prefix p n ≡ true → (b : ℕ) → prefix_admits p b (bit_of 32 n b) ≡ true
prefix_agrees p n e b =
    own_bit (nat_lt b p.length) (bit_of 32 n b) (bit_of 32 p.address b) (λ t.
    let lt = ltb-true b p.length t in
    let same = eqb-true (n / 2 ^ (32 - p.length)) (p.address / 2 ^ (32 - p.length)) e in
    ap (λ (k : ℕ). nat_eq (k % 2) 1) (shifted n p.length b lt p.short ∙ ap (λ (k : ℕ). k / 2 ^ (p.length - 1 - b)) same ∙ sym (shifted p.address p.length b lt p.short)))

beq_own : (v : Bool) → beq v v ≡ true
beq_own true = refl
beq_own false = refl

range_agrees : (r : PortRange) (n : ℕ) → in_range r n ≡ true → (bits : List ℕ) → range_admits r (with_values (bit_of 16 n) bits) ≡ true
range_agrees r n e bits = (range_decides r (with_values (bit_of 16 n) bits)).1 (n, e, each_own (λ b v. beq v (bit_of 16 n b)) (bit_of 16 n) (λ b. beq_own (bit_of 16 n b)) bits)

prefix_lawful : (number : Header → ℕ) (part : Rule → Prefix) → LawfulField (field 32 number part in_prefix (λ p. each (prefix_admits p)))
prefix_lawful number part = record {
  agrees = λ r n e bits. each_own (prefix_admits (part r)) (bit_of 32 n) (prefix_agrees (part r) n e) bits;
  yes_to_none = λ r. refl;
}

range_lawful : (number : Header → ℕ) (part : Rule → PortRange) → LawfulField (field 16 number part in_range range_admits)
range_lawful number part = record {
  agrees = λ r n e bits. range_agrees (part r) n e bits;
  yes_to_none = λ r. some_port (part r);
}

protocol_lawful : (number : Header → ℕ) (part : Rule → ProtocolMatch) → LawfulField (field 8 number part is_protocol (λ p. each (protocol_admits p)))
protocol_lawful number part = record {
  agrees = λ r n e bits. each_own (protocol_admits (part r)) (bit_of 8 n) (λ b. mask_agrees 8 (part r).value (part r).mask n b e) bits;
  yes_to_none = λ r. refl;
}

side_by_side_lawful : Lawful side_by_side
side_by_side_lawful =
    fields_lawful fields _ (omega arith) (omega arith)
    (prefix_lawful (λ h. h.source) (λ r. r.source), (prefix_lawful (λ h. h.destination) (λ r. r.destination), (range_lawful (λ h. (port_bits h.ports).source) (λ r. r.source_ports), (range_lawful (λ h. (port_bits h.ports).destination) (λ r. r.destination_ports), (protocol_lawful (λ h. h.protocol) (λ r. r.protocol), tt)))))

-- a rule that matches, matches in every field
pub routed_lawful : Lawful routed
routed_lawful = record {
  some_bits = side_by_side_lawful.some_bits;
  few_bits = side_by_side_lawful.few_bits;
  agrees = λ r h e. side_by_side_lawful.agrees r h (and_parts (side_by_side.matches r h) _ e).0;
  yes_to_none = side_by_side_lawful.yes_to_none;
  zero_beyond = side_by_side_lawful.zero_beyond;
  only_zero_beyond = side_by_side_lawful.only_zero_beyond;
}
