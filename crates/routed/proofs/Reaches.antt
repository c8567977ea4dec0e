-- A range admits values exactly as its two ends tell.
use Rattle.std.proofs.Common.{◌≡◌, ℕ, suc, ◌+◌, ◌-◌, ◌*◌, ◌/◌, ◌%◌, ◌^◌, ◌<◌, ◌≤◌, Bool, true, false, cond, not, ◌&&◌, ◌||◌, ◌==◌, bit_and, List, [], ◌∷◌, refl, sym, ap, ap₂, ◌∙◌, inl, inr, arith}
use Rattle.std.specs.Prelude.{nat_le}
use Rattle.std.specs.Bool.{beq}
use native.Mathlib.Nat.{two-pow-succ}
use Rattle.std.proofs.lemmas.Nat.{pow_pos, shr_high, shr_split, shr-shr, and_block}
use Rattle.std.proofs.lemmas.Nat.Bits.{and_pow, bit_at-zero}
use Rattle.std.proofs.lemmas.Bool.{cases_lt}
use Rattle.std.proofs.lemmas.Bool.Decides.{nat_tests, same_from_decides}
use Rattle.kinds.specs.Bits.{digit, bit_of}
use Rattle.kinds.specs.Values.{each, has, weigh, Rises, AllBelow}
use Rattle.routed.specs.Ranges.{range_admits, ends_admit}
use Rattle.routed.specs.Exact.{range_decides, in_range_between, some_port}
use Rattle.routed.specs.Turns.{Turns, marks, weight, ones, either}
use Rattle.routed.proofs.Ones.{split, marks_few, front_digit, front_low, has_below, Digits, digits, ones_both, reached}
use Rattle.routed.proofs.TurnsFound.{place_of}
use Rattle.routed.specs.declared.ports.PortRange.{PortRange}

-- values at bits of a port that rise, and what the bits are worth together
abbrev pub IsAsked : ℕ → List (ℕ × Bool) → Type 0
IsAsked number asked = Rises 0 asked × AllBelow 16 asked × (marks asked ≡ number)

-- each bit alone tells what a range admits
abbrev pub IsExact : PortRange → List (ℕ × Bool) → Type 0
IsExact r asked = each (ends_admit r) asked ≡ range_admits r asked

-- numbers that are one without their digits below a place are so further up
pub further : (a b i j : ℕ) → i ≤ j → a / 2 ^ i ≡ b / 2 ^ i → a / 2 ^ j ≡ b / 2 ^ j
further a b i j le same =
    let is : i + (j - i) ≡ j = omega arith in
    ap (λ (k : ℕ). a / 2 ^ k) (sym is) ∙ sym (shr-shr a i (j - i)) ∙ ap (λ (q : ℕ). q / 2 ^ (j - i)) same ∙ shr-shr b i (j - i) ∙ ap (λ (k : ℕ). b / 2 ^ k) is

module _ (r : PortRange) where
  -- one port alone
  one_alone : r.low ≡ r.high → (asked : List (ℕ × Bool)) → each (ends_admit r) asked ≡ has (bit_of 16 r.low) asked
  one_alone one [] = refl
  one_alone one (a ∷ asked) = let same = ap (λ (n : ℕ). n / 2 ^ (15 - a.0)) one in grind (arith, nat_tests, one_alone one asked)

  pub one_exact : r.low ≡ r.high → (asked : List (ℕ × Bool)) → IsExact r asked
  one_exact one asked =
      one_alone one asked
      ∙ same_from_decides (has (bit_of 16 r.low) asked) (range_admits r asked) (
        (λ e. (r.low, in_range_between r r.low (omega arith) r.ordered, e)),
        (λ some. let same : r.low ≡ some.0 = grind (arith, nat_tests) in ap (λ (n : ℕ). has (bit_of 16 n) asked) same ∙ some.2),
      )
      (range_decides r asked)

  module _ (top over under : ℕ) (t : Turns r.low r.high top over under) where
    -- above the place all ports have the same digits
    behind : (n : ℕ) → r.low ≤ n → n ≤ r.high → (n / 2 ^ suc top ≡ t.front) × (n ≡ t.front * 2 ^ suc top + (weigh (digit n top) top + n % 2 ^ top)) × (n % 2 ^ top < 2 ^ top)
    behind n from to =
        let rest = n - t.front * 2 ^ suc top in
        let q : n / 2 ^ suc top ≡ t.front = ap (λ (k : ℕ). k / 2 ^ suc top) (omega arith) ∙ shr_high t.front (suc top) rest (omega (arith, two-pow-succ top, pow_pos top)) in
        (q, omega (arith, shr_split n (suc top), ap (λ (k : ℕ). k * 2 ^ suc top) q, split n top), (split n top).1)

    alike : (n place : ℕ) → r.low ≤ n → n ≤ r.high → top < place → n / 2 ^ place ≡ r.low / 2 ^ place
    alike n place from to lt = further n r.low (suc top) place lt ((behind n from to).0 ∙ sym (behind r.low (omega arith) r.ordered).0)

    -- from there down the ends differ
    differ : (place : ℕ) → place ≤ top → r.low / 2 ^ place ≡ r.high / 2 ^ place → ⊥
    differ place le same =
        let one = further r.low r.high place top le same in
        let low = behind r.low (omega arith) r.ordered in
        let high = behind r.high r.ordered (omega arith) in
        grind (arith, nat_tests)

    -- a port has the values if each bit alone admits its own, and the port has those from that place down
    has_parts : (n : ℕ) → r.low ≤ n → n ≤ r.high → (asked : List (ℕ × Bool)) → has (bit_of 16 n) asked ≡ (each (ends_admit r) asked && has_below (suc top) n asked)
    has_parts n from to [] = refl
    has_parts n from to (a ∷ asked) = let p = 15 - a.0 in grind (arith, nat_tests, differ p, alike n p from to, alike r.high p r.ordered (omega arith), has_parts n from to asked)

    module _ (asked : List (ℕ × Bool)) (number : ℕ) (is_asked : IsAsked number asked) where
      abbrev alone : Bool
      alone = each (ends_admit r) asked

      -- the values do not ask for the other digit at the place
      abbrev free : Bool → Bool
      free v = not (digit (weight v asked) top)

      abbrev down : Bool
      down = nat_le (ones top false asked) over && free true

      abbrev up : Bool
      up = nat_le (ones top true asked) under && free false

      place : Digits top asked
      place = digits top 0 asked is_asked.0 is_asked.1

      -- a port on a side has the values
      sides_exact : (alone && (down || up)) ≡ range_admits r asked
      sides_exact =
          same_from_decides (alone && (down || up)) (range_admits r asked) (
            (λ e.
                let n = t.front * 2 ^ suc top + cond down (2 ^ top - 1 - ones top false asked) (2 ^ top + ones top true asked) in
                let from : r.low ≤ n = grind (arith, nat_tests) in
                let to : n ≤ r.high = grind (arith, nat_tests, pow_pos top) in
                let is = behind n from to in
                let reach = reached asked is_asked.0 is_asked.1 top n in
                (n, in_range_between r n from to, has_parts n from to asked ∙ grind (arith, nat_tests, place.next n))),
            (λ some.
                let n = some.0 in
                let from : r.low ≤ n = grind (arith, nat_tests) in
                let to : n ≤ r.high = grind (arith, nat_tests) in
                let is = behind n from to in
                let parts = sym (has_parts n from to asked) ∙ some.2 in
                let reach = reached asked is_asked.0 is_asked.1 top n in
                grind (arith, nat_tests, place.next n)),
          )
          (range_decides r asked)

      abbrev unmarked : Bool
      unmarked = bit_and number (2 ^ top) == 0

      -- a mask leaves the place's digit
      is_marked : unmarked ≡ (free true && free false)
      is_marked = grind (arith, nat_tests, place.either, ap (λ (n : ℕ). bit_and n (2 ^ top)) is_asked.2, and_pow (marks asked) top, pow_pos top)

      -- where the place is not asked for, a port on either side will do
      pub around_exact : bit_and number (2 ^ top) ≡ 0 → (alone && (nat_le (ones top false asked) over || nat_le (ones top true asked) under)) ≡ range_admits r asked
      around_exact none = grind (arith, nat_tests, sides_exact, is_marked)

      -- where it is asked for, the value there tells the side
      pub between_exact : (bit_and number (2 ^ top) ≡ 0 → ⊥) → (alone && (nat_le (ones (suc top) false asked) (2 ^ top + over) && nat_le (ones (suc top) true asked) (2 ^ top + under))) ≡ range_admits r asked
      between_exact some =
          grind (arith, nat_tests, sides_exact, is_marked, place.one, split (weight true asked) top, split (weight false asked) top)

      -- where both sides, or one of them and the place is not asked for, have all that the bits can be, no value is left out
      pub even_exact : either unmarked (nat_le (number % 2 ^ top) over) (nat_le (number % 2 ^ top) under) ≡ true → IsExact r asked
      even_exact e = grind (arith, nat_tests, sides_exact, is_marked, place.one, ones_both asked is_asked.0 is_asked.1 top, ap (λ (n : ℕ). n % 2 ^ top) is_asked.2)

-- at one bit or none, which their worth tells
pub few_exact : (r : PortRange) → r.high < 2 ^ 16 → (asked : List (ℕ × Bool)) → Rises 0 asked → AllBelow 16 asked → (0 < marks asked → bit_and (marks asked) (marks asked - 1) ≡ 0) → IsExact r asked
few_exact r few [] rises below none = sym (some_port r)
few_exact r few (a ∷ []) rises below none = elim (cases_lt r.low r.high) [
  | inl less ↦
      let p = 15 - a.0 in
      let at = place_of r.low r.high less few in
      let none = bit_at-zero at.0 in
      let digit = λ (v : Bool). front_digit (beq v a.1) p 0 (pow_pos p) at.0 in
      let low = λ (v : Bool). front_low (beq v a.1) p 0 (pow_pos p) at.0 in
      grind (arith, nat_tests, sides_exact r at.0 _ _ at.1 (a ∷ []) _ (rises, below, refl), digit true, digit false, low true, low false)
  | inr more ↦ one_exact r (omega arith) (a ∷ [])
]
few_exact r few (a ∷ b ∷ asked) rises below none =
    let p = 15 - a.0 in
    let m = marks (b ∷ asked) in
    let less : m < 2 ^ p = marks_few p (a.0 + 1) (b ∷ asked) (omega arith) rises.1 below.1 in
    let first : bit_and (2 ^ p + m) (2 ^ p + m - 1) ≡ 1 * 2 ^ p + bit_and m (m - 1) = ap₂ bit_and (omega arith) (omega (arith, pow_pos (15 - b.0))) ∙ and_block p 1 1 m (m - 1) less (omega arith) in
    absurd (omega (arith, none, pow_pos p))
