-- A rule admits values exactly when some header that it matches has them.
use Rattle.std.proofs.Common.{◌≡◌, ℕ, ◌&&◌, length, ◌^◌, ◌<◌, bit_and, Bool, true, List, sym, ◌∙◌}
use Rattle.std.specs.Prelude.{◌↔◌, IsTrue}
use Rattle.std.specs.List.{AllByRecursion, range_with_len}
use Rattle.std.proofs.lemmas.List.Elements.{filter_agree}
use Rattle.std.proofs.lemmas.Bool.{and_parts, eqb-true}
use Rattle.bits.specs.Chosen.{IsBits}
use Rattle.kinds.specs.Meaning.{IsMatched}
use Rattle.kinds.specs.Values.{each, Rises, valued, cells_of}
use Rattle.kinds.specs.Bits.{mask_matches}
use Rattle.kinds.proofs.Rising.{bits_rise}
use Rattle.kinds.proofs.Rows.{each_row}
use Rattle.kinds.proofs.Exact.{ExactField, mask_exact, fields_exact, fields_matched, matched_admits}
use Rattle.bridge.specs.Bridge.{bridge, fields, masked, parts, alone, IsOctets, IsHeader}
use Rattle.bridge.specs.Law.{bridge_lawful}
use Rattle.bridge.specs.declared.octets.Octets.{Octets}
use Rattle.bridge.specs.declared.frame.Header.{Header}
use Rattle.bridge.specs.declared.rule.Rule.{Rule}

pub by_bits : (r : Rule) (asked : List (ℕ × Bool)) → bridge.admits r asked ≡ each (alone r) asked
by_bits r asked = each_row (parts r) asked

-- the same cells
pub cells_by_bits : (r : Rule) (bits : List ℕ) → cells_of (each (alone r)) bits ≡ cells_of (bridge.admits r) bits
cells_by_bits r bits = filter_agree (λ cell. each (alone r) (valued bits cell)) (λ cell. bridge.admits r (valued bits cell)) (λ cell. sym (by_bits r (valued bits cell))) (range_with_len 0 (2 ^ length bits))

module _ (r : Rule) (real : IsOctets r.value) where
  part_exact : (width : ℕ) (part : Octets → ℕ) → mask_matches (part r.value) (part r.mask) (part r.value) ≡ true → part r.value < 2 ^ width → ExactField r (masked width part)
  part_exact width part inside few asked rises below e =
      mask_exact width (part r.value) (part r.mask) (eqb-true (bit_and (part r.value) (part r.mask)) (part r.value) inside) few asked rises below e

  exact_fields : AllByRecursion (ExactField r) fields
  exact_fields =
      let inside = and_parts (mask_matches r.value.first r.mask.first r.value.first && mask_matches r.value.middle r.mask.middle r.value.middle) (mask_matches r.value.last r.mask.last r.value.last) r.inside in
      let front = and_parts (mask_matches r.value.first r.mask.first r.value.first) (mask_matches r.value.middle r.mask.middle r.value.middle) inside.0 in
      (part_exact 64 (λ o. o.first) front.0 real.0, (part_exact 32 (λ o. o.middle) front.1 real.1, (part_exact 16 (λ o. o.last) inside.1 real.2, tt)))

  admits_matched : (asked : List (ℕ × Bool)) → Rises 0 asked → bridge.admits r asked ≡ true → IsMatched bridge IsHeader r asked
  admits_matched asked rises e =
      let n = fields_exact fields r exact_fields 0 asked rises e in
      let h : Header = record { octets = record { first = n.0.0; middle = n.1.0.0; last = n.1.1.0.0 } } in
      let made = fields_matched fields r asked h ((n.0.2, n.0.3), ((n.1.0.2, n.1.0.3), ((n.1.1.0.2, n.1.1.0.3), n.1.1.1))) in
      (h, (n.0.1, n.1.0.1, n.1.1.0.1), made.0, made.1)

  pub exact : (bits : List ℕ) → IsBits bits → (cell : ℕ) (answer : Bool) → answer ≡ bridge.admits r (valued bits cell) → IsTrue answer ↔ IsMatched bridge IsHeader r (valued bits cell)
  exact bits set cell answer is = (
    (λ e. admits_matched (valued bits cell) (bits_rise cell bits set) (sym is ∙ e)),
    (λ found. is ∙ matched_admits bridge bridge_lawful IsHeader r bits set cell found),
  )
