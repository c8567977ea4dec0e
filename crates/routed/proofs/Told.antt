-- The routed kind's admission by bits alone and by two spans.
use Rattle.std.proofs.Common.{◌≡◌, ℕ, ◌+◌, ◌-◌, ◌^◌, Bool, true, ◌&&◌, List, [], ◌∷◌, filter, length, refl, sym, ap, ◌∙◌, arith}
use Rattle.std.specs.List.{range_with_len}
use Rattle.std.proofs.Math.Bool.{and-true}
use Rattle.std.proofs.lemmas.Bool.Decides.{nat_tests}
use Rattle.std.proofs.lemmas.List.Elements.{filter_agree}
use Rattle.kinds.specs.Values.{each, valued, cells_of}
use Rattle.kinds.specs.Fields.{beyond}
use Rattle.kinds.specs.Spans.{in_span, in_both}
use Rattle.kinds.specs.declared.spans.Span.{Span}
use Rattle.kinds.proofs.Rows.{each_row}
use Rattle.routed.specs.Prefixes.{prefix_admits}
use Rattle.routed.specs.Protocols.{protocol_admits}
use Rattle.routed.specs.Ranges.{ends_admit, range_admits}
use Rattle.routed.specs.declared.ports.PortRange.{PortRange}
use Rattle.routed.specs.Turns.{own}
use Rattle.routed.specs.Routed.{routed, alone}
use Rattle.routed.specs.declared.rule.Rule.{Rule}

-- past two fields at once
past_both : (a b : ℕ) (asked : List (ℕ × Bool)) → beyond b (beyond a asked) ≡ beyond (a + b) asked
past_both a b [] = refl
past_both a b (x ∷ asked) = let place : x.0 - a - b ≡ x.0 - (a + b) = omega arith in grind (arith, nat_tests, past_both a b asked)

-- two tests one after the other
filter_both : (p q : ℕ → Bool) (xs : List ℕ) → filter p (filter q xs) ≡ filter (λ x. q x && p x) xs
filter_both p q [] = refl
filter_both p q (x ∷ xs) = grind (arith, nat_tests, filter_both p q xs)

-- where each bit alone is admitted, an answer tells whether a range admits a sixteen's own values
abbrev pub Tells : PortRange → ℕ → List (ℕ × Bool) → Bool → Type 0
Tells range k asked answer = (each (ends_admit range) (own k asked) && answer) ≡ range_admits range (own k asked)

module _ (r : Rule) where
  pub told : (asked : List (ℕ × Bool)) (s t : Bool) → Tells r.source_ports 4 asked s → Tells r.destination_ports 5 asked t → (each (alone r) asked && (s && t)) ≡ routed.admits r asked
  told asked s t source destination =
      let row = each_row ((32, prefix_admits r.source) ∷ (32, prefix_admits r.destination) ∷ (16, ends_admit r.source_ports) ∷ (16, ends_admit r.destination_ports) ∷ (8, protocol_admits r.protocol) ∷ []) asked in
      let first : beyond 64 asked ≡ beyond 32 (beyond 32 asked) = sym (past_both 32 32 asked) in
      let second : beyond 80 asked ≡ beyond 16 (beyond 32 (beyond 32 asked)) = sym (ap (beyond 16) (past_both 32 32 asked) ∙ past_both 64 16 asked) in
      let one = rw first at source in
      let two = rw second at destination in
      grind (arith, nat_tests)

  module _ (bits : List ℕ) where
    pub cells_told : (first second : Span) → ((cell : ℕ) → Tells r.source_ports 4 (valued bits cell) (in_span first cell)) → ((cell : ℕ) → Tells r.destination_ports 5 (valued bits cell) (in_span second cell)) → filter (in_both first second) (cells_of (each (alone r)) bits) ≡ cells_of (routed.admits r) bits
    cells_told first second source destination =
        filter_both (in_both first second) (λ cell. each (alone r) (valued bits cell)) (range_with_len 0 (2 ^ length bits))
        ∙ filter_agree _ _ (λ cell. told (valued bits cell) (in_span first cell) (in_span second cell) (source cell) (destination cell)) (range_with_len 0 (2 ^ length bits))

    -- where nothing is left out
    pub masked_told : ((cell : ℕ) → Tells r.source_ports 4 (valued bits cell) true) → ((cell : ℕ) → Tells r.destination_ports 5 (valued bits cell) true) → cells_of (each (alone r)) bits ≡ cells_of (routed.admits r) bits
    masked_told source destination =
        filter_agree _ _ (λ cell. sym (and-true _) ∙ told (valued bits cell) true true (source cell) (destination cell)) (range_with_len 0 (2 ^ length bits))
