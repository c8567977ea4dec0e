-- A range whose ends differ only behind all bits that are asked for: its ports have the digits of the low end there.
use Rattle.std.proofs.Common.{◌≡◌, ℕ, ◌+◌, ◌-◌, ◌/◌, ◌%◌, ◌^◌, ◌<◌, ◌≤◌, Bool, true, ◌==◌, List, [], ◌∷◌, refl, sym, ap, ◌∙◌, inl, inr, arith}
use Rattle.std.specs.Prelude.{nat_le}
use Rattle.std.specs.Int.{trailing_zeros}
use Rattle.std.proofs.Common.{w32}
use Rattle.std.specs.Int.Bits.{bit_xor}
use Rattle.std.proofs.lemmas.Nat.{pow_pos, le-div, shr_split, xor_shr}
use Rattle.std.proofs.lemmas.Nat.Bits.{bit_at-trailing_zeros}
use Rattle.std.proofs.lemmas.Bool.{and_parts, and_from, leb-true, eq-eqb, eqb-true, cases_lt}
use Rattle.std.proofs.lemmas.Bool.Decides.{nat_tests, same_from_decides}
use Rattle.kinds.specs.Bits.{digit, bit_of}
use Rattle.kinds.specs.Values.{each, has, Rises, AllBelow}
use Rattle.routed.specs.Ranges.{range_admits, ends_admit}
use Rattle.routed.specs.Exact.{range_decides, in_range_between}
use Rattle.routed.specs.Turns.{marks}
use Rattle.routed.proofs.Ones.{marks_few, front_digit}
use Rattle.routed.proofs.TurnsFound.{same_if}
use Rattle.routed.proofs.Reaches.{further}
use Rattle.routed.specs.declared.ports.PortRange.{PortRange}

module _ (r : PortRange) where
  abbrev alike : ℕ → Bool
  alike b = r.low / 2 ^ (15 - b) == r.high / 2 ^ (15 - b)

  abbrev pub all_alike : List (ℕ × Bool) → Bool
  all_alike asked = each (λ b v. alike b) asked

  -- each bit alone has the low end's digit
  alone : (asked : List (ℕ × Bool)) → all_alike asked ≡ true → each (ends_admit r) asked ≡ has (bit_of 16 r.low) asked
  alone [] all = refl
  alone (a ∷ asked) all = grind (arith, nat_tests, alone asked, all)

  -- and so has each port
  ordered : (m n place : ℕ) → m ≤ n → m / 2 ^ place ≤ n / 2 ^ place
  ordered m n place le = le-div (m / 2 ^ place) n (2 ^ place) (pow_pos place) (omega (arith, shr_split m place))

  one_digit : (n b : ℕ) → r.low ≤ n → n ≤ r.high → alike b ≡ true → bit_of 16 n b ≡ bit_of 16 r.low b
  one_digit n b from to same =
      ap (λ (q : ℕ). q % 2 == 1) (omega (arith, ordered r.low n (15 - b) from, ordered n r.high (15 - b) to, eqb-true (r.low / 2 ^ (15 - b)) (r.high / 2 ^ (15 - b)) same))

  port_has : (n : ℕ) → r.low ≤ n → n ≤ r.high → (asked : List (ℕ × Bool)) → all_alike asked ≡ true → has (bit_of 16 n) asked ≡ has (bit_of 16 r.low) asked
  port_has n from to [] all = refl
  port_has n from to (a ∷ asked) all = grind (arith, nat_tests, one_digit n a.0 from to, port_has n from to asked, all)

  pub alike_exact : (asked : List (ℕ × Bool)) → all_alike asked ≡ true → each (ends_admit r) asked ≡ range_admits r asked
  alike_exact asked all =
      alone asked all
      ∙ same_from_decides (has (bit_of 16 r.low) asked) (range_admits r asked) (
        (λ e. (r.low, in_range_between r r.low (omega arith) r.ordered, e)),
        (λ some.
            let parts = and_parts (nat_le r.low some.0) (nat_le some.0 r.high) some.1 in
            sym (port_has some.0 (leb-true r.low some.0 parts.0) (leb-true some.0 r.high parts.1) asked all) ∙ some.2),
      )
      (range_decides r asked)

-- where the lowest bit that is asked for stands above all that the ends differ in
module _ (r : PortRange) (digits : ℕ) (some : 0 < digits) (few : digits < 2 ^ 32) (none : bit_xor r.low r.high / 2 ^ trailing_zeros w32 digits ≡ 0) where
  abbrev lowest : ℕ
  lowest = trailing_zeros w32 digits

  above : (place : ℕ) → digit digits place ≡ true → lowest ≤ place
  above place one = elim (cases_lt place lowest) [
    | inl below ↦ absurd (omega (arith, (bit_at-trailing_zeros w32 digits some few).2 place below, eqb-true (digits / 2 ^ place % 2) 1 one))
    | inr le ↦ le
  ]

  same : r.low / 2 ^ lowest ≡ r.high / 2 ^ lowest
  same = same_if (r.low / 2 ^ lowest) (r.high / 2 ^ lowest) (sym (xor_shr r.low r.high lowest) ∙ none)

  low_one : (from : ℕ) (asked : List (ℕ × Bool)) → Rises from asked → AllBelow 16 asked → ((place : ℕ) → digit (marks asked) place ≡ true → lowest ≤ place) → all_alike r asked ≡ true
  low_one from [] rises below up = refl
  low_one from (a ∷ asked) rises below up =
      let p = 15 - a.0 in
      let front = front_digit true p (marks asked) (marks_few p (a.0 + 1) asked (omega arith) rises.1 below.1) in
      let first : digit (marks (a ∷ asked)) p ≡ true = grind (arith, nat_tests, front p) in
      and_from (r.low / 2 ^ p == r.high / 2 ^ p) (all_alike r asked)
      (eq-eqb (r.low / 2 ^ p) (r.high / 2 ^ p) (further r.low r.high lowest p (up p first) same))
      (low_one (a.0 + 1) asked rises.1 below.1 (λ place one. up place (grind (arith, nat_tests, front place, one))))

  pub low_alike : (asked : List (ℕ × Bool)) → Rises 0 asked → AllBelow 16 asked → marks asked ≡ digits → all_alike r asked ≡ true
  low_alike asked rises below is = low_one 0 asked rises below (λ place one. above place (ap (λ (n : ℕ). digit n place) (sym is) ∙ one))
