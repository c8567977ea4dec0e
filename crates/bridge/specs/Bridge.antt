-- The bridge kind: 112 bits, the first fourteen bytes of a frame.
--     bridge    its meaning, field by field; the fields are eight, four and two bytes, so that each is one number
--     alone     what a rule admits at a bit, whatever is asked at the others
--     IsHeader  the numbers of a header have their bytes
--     rule_in   the rule that a row holds, or why it holds none
-- Assumes nothing.
use Rattle.std.specs.Prelude.{◌≡◌, ℕ, ◌^◌, ◌<◌, Bool, true, false, List, [], ◌∷◌, Ok, Err, Result, refl}
use Rattle.std.specs.Result.{result_ok}
use Rattle.kinds.specs.Meaning.{Meaning}
use Rattle.kinds.specs.Bits.{mask_matches, mask_admits}
use Rattle.kinds.specs.Values.{each}
use Rattle.kinds.specs.Fields.{Field, bit_in, kind_of, alone_in}
use Rattle.bridge.specs.Inside.{inside}
use Rattle.bridge.specs.declared.fault.Fault.{Fault}
use Rattle.bridge.specs.declared.fault.Fault.TheVariants.{StrayBit}
use Rattle.bridge.specs.declared.octets.Octets.{Octets}
use Rattle.bridge.specs.declared.frame.Header.{Header}
use Rattle.bridge.specs.declared.rule.Rule.{Rule}
use Rattle.bridge.specs.declared.rule.Row.{Row}

-- one part of the fourteen bytes, in a header, a value and a mask
abbrev pub masked : ℕ → (Octets → ℕ) → Field Header Rule
masked width part = record {
  width = width;
  number = λ h. part h.octets;
  takes = λ r n. mask_matches (part r.value) (part r.mask) n;
  admits = λ r. each (mask_admits width (part r.value) (part r.mask));
}

abbrev pub fields : List (Field Header Rule)
fields = masked 64 (λ o. o.first) ∷ masked 32 (λ o. o.middle) ∷ masked 16 (λ o. o.last) ∷ []

-- bit b of fourteen bytes
abbrev pub octets_bit : Octets → ℕ → Bool
octets_bit octets b = bit_in fields (record { octets = octets }) b

abbrev pub rule_if : (row : Row) (t : Bool) → inside row.value row.mask ≡ t → Result Rule Fault
rule_if row true e = Ok (record { value = row.value; mask = row.mask; inside = e })
rule_if row false e = Err StrayBit

abbrev pub rule_in : Row → Result Rule Fault
rule_in row = rule_if row (inside row.value row.mask) refl

abbrev pub bridge : Meaning Header Rule Row
bridge = kind_of fields (λ row. result_ok (rule_in row))

abbrev pub parts : Rule → List (ℕ × (ℕ → Bool → Bool))
parts r = (64, mask_admits 64 r.value.first r.mask.first) ∷ (32, mask_admits 32 r.value.middle r.mask.middle) ∷ (16, mask_admits 16 r.value.last r.mask.last) ∷ []

abbrev pub alone : Rule → ℕ → Bool → Bool
alone r = alone_in (parts r)

abbrev pub IsOctets : Octets → Type 0
IsOctets o = (o.first < 2 ^ 64) × (o.middle < 2 ^ 32) × (o.last < 2 ^ 16)

abbrev pub IsHeader : Header → Type 0
IsHeader h = IsOctets h.octets
