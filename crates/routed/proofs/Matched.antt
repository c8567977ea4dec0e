-- A routed rule admits values exactly when some header that it matches has them.
use Rattle.std.proofs.Common.{◌≡◌, ℕ, ◌+◌, ◌-◌, ◌/◌, ◌%◌, ◌^◌, ◌<◌, ◌==◌, Bool, true, ltb, List, Some, refl, sym, ap, ◌∙◌, arith}
use Rattle.std.specs.Prelude.{◌↔◌, IsTrue}
use Rattle.std.specs.List.{AllByRecursion}
use Rattle.std.proofs.lemmas.Nat.{shr-shr, shr_below}
use Rattle.std.proofs.lemmas.Bool.{and_from, eq-eqb, lt-ltb}
use Rattle.std.proofs.lemmas.Bool.Decides.{nat_tests}
use Rattle.bits.specs.Chosen.{IsBits}
use Rattle.kinds.specs.Meaning.{IsMatched}
use Rattle.kinds.specs.Values.{each, has, valued, Rises, AllBelow}
use Rattle.kinds.specs.Bits.{digit, bit_of}
use Rattle.kinds.proofs.Rising.{bits_rise}
use Rattle.kinds.proofs.Exact.{ExactField, mask_exact, fixed_exact, fields_exact, same_digits, fields_matched, matched_admits}
use Rattle.routed.specs.Prefixes.{in_prefix, prefix_admits}
use Rattle.routed.specs.Ranges.{in_range, range_admits}
use Rattle.routed.specs.Exact.{range_decides}
use Rattle.routed.specs.Routed.{routed, fields, IsHeader}
use Rattle.routed.specs.Law.{routed_lawful}
use Rattle.routed.specs.declared.packet.Header.{Header}
use Rattle.routed.specs.declared.prefix.Prefix.{Prefix}
use Rattle.routed.specs.declared.ports.PortRange.{PortRange}
use Rattle.routed.specs.declared.rule.Rule.{Rule}

prefix_exact : (p : Prefix) → p.address < 2 ^ 32 → (asked : List (ℕ × Bool)) → Rises 0 asked → AllBelow 32 asked → each (prefix_admits p) asked ≡ true → (n : ℕ) × (n < 2 ^ 32) × (in_prefix p n ≡ true) × (has (bit_of 32 n) asked ≡ true)
prefix_exact p few asked rises below e =
    let f = fixed_exact 32 p.address (λ b. ltb b p.length) asked rises below e in
    let s = 32 - p.length in
    let whole : p.length + s ≡ 32 = omega arith in
    let room = ap (λ (k : ℕ). 2 ^ k) whole in
    let moved : (n j : ℕ) → digit (n / 2 ^ s) j ≡ digit n (s + j) = λ n j. ap (λ (q : ℕ). q % 2 == 1) (shr-shr n s j) in
    let same : f.0 / 2 ^ s ≡ p.address / 2 ^ s =
    same_digits p.length _ _ (shr_below f.0 p.length s (omega arith)) (shr_below p.address p.length s (omega arith))
    (λ j lt. moved f.0 j ∙ f.2 (s + j) (omega arith) (lt-ltb _ _ (omega arith)) ∙ sym (moved p.address j)) in
    (f.0, f.1, eq-eqb _ _ same, f.3)

range_exact : (r : PortRange) → r.high < 2 ^ 16 → (asked : List (ℕ × Bool)) → Rises 0 asked → AllBelow 16 asked → range_admits r asked ≡ true → (n : ℕ) × (n < 2 ^ 16) × (in_range r n ≡ true) × (has (bit_of 16 n) asked ≡ true)
range_exact r few asked rises below e =
    let some = (range_decides r asked).0 e in
    (some.0, grind (arith, nat_tests), some.1, some.2)

-- the numbers of a rule have their bits
abbrev pub IsRule : Rule → Type 0
IsRule r = (r.source.address < 2 ^ 32) × (r.destination.address < 2 ^ 32) × (r.source_ports.high < 2 ^ 16) × (r.destination_ports.high < 2 ^ 16) × (r.protocol.value < 2 ^ 8)

module _ (r : Rule) (real : IsRule r) where
  exact_fields : AllByRecursion (ExactField r) fields
  exact_fields = (prefix_exact r.source real.0, (prefix_exact r.destination real.1, (range_exact r.source_ports real.2, (range_exact r.destination_ports real.3, (mask_exact 8 _ _ r.protocol.inside real.4, tt)))))

  admits_matched : (asked : List (ℕ × Bool)) → Rises 0 asked → routed.admits r asked ≡ true → IsMatched routed IsHeader r asked
  admits_matched asked rises e =
      let (a, (b, (c, (d, (p, past))))) = fields_exact fields r exact_fields 0 asked rises e in
      let h : Header = record { source = a.0; destination = b.0; ports = Some (record { source = c.0; destination = d.0 }); protocol = p.0 } in
      let made = fields_matched fields r asked h ((a.2, a.3), ((b.2, b.3), ((c.2, c.3), ((d.2, d.3), ((p.2, p.3), past))))) in
      (h, (a.1, b.1, (c.1, d.1), p.1), and_from _ _ made.0 refl, made.1)

  pub exact : (bits : List ℕ) → IsBits bits → (cell : ℕ) (answer : Bool) → answer ≡ routed.admits r (valued bits cell) → IsTrue answer ↔ IsMatched routed IsHeader r (valued bits cell)
  exact bits set cell answer is = (
    (λ e. admits_matched (valued bits cell) (bits_rise cell bits set) (sym is ∙ e)),
    (λ found. is ∙ matched_admits routed routed_lawful IsHeader r bits set cell found),
  )
