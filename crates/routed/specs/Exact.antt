-- The definition's search finds a port exactly when there is one.
-- Proofs alone, which the code names: nothing here has to be believed.
use Rattle.std.specs.Prelude.{◌≡◌, ℕ, ◌+◌, ◌≤◌, Bool, true, ◌&&◌, List, [], Decides, nat_le, refl}
use Rattle.std.proofs.Common.{arith}
use Rattle.std.proofs.lemmas.Bool.{and_parts, and_from, leb-true, le-leb}
use Rattle.std.proofs.lemmas.Bool.Decides.{Decides-and, Decides-below_or, Decides-like}
use Rattle.kinds.specs.Bits.{bit_of}
use Rattle.kinds.specs.Values.{has}
use Rattle.routed.specs.Ranges.{in_range, SomePort, some_below, range_admits}
use Rattle.routed.specs.declared.ports.PortRange.{PortRange}

decides_true : (t : Bool) → Decides t (t ≡ true)
decides_true t = ((λ e. e), (λ e. e))

module _ (r : PortRange) where
  pub range_decides : (asked : List (ℕ × Bool)) → Decides (range_admits r asked) (SomePort r asked)
  range_decides asked =
      Decides-like (range_admits r asked)
      (λ found. (found.0, found.2.0, found.2.1))
      (λ some. (some.0, omega (arith, leb-true some.0 r.high (and_parts (nat_le r.low some.0) (nat_le some.0 r.high) some.1).1), (some.1, some.2)))
      (Decides-below_or
      (λ port. in_range r port && has (bit_of 16 port) asked)
      (λ port. (in_range r port ≡ true) × (has (bit_of 16 port) asked ≡ true))
      (some_below (λ port. in_range r port && has (bit_of 16 port) asked))
      (λ port. Decides-and (in_range r port) (has (bit_of 16 port) asked) (decides_true (in_range r port)) (decides_true (has (bit_of 16 port) asked)))
      refl (λ _. refl) (r.high + 1))

  pub in_range_between : (n : ℕ) → r.low ≤ n → n ≤ r.high → in_range r n ≡ true
  in_range_between n from to = and_from (nat_le r.low n) (nat_le n r.high) (le-leb r.low n from) (le-leb n r.high to)

  pub some_port : range_admits r [] ≡ true
  some_port = (range_decides []).1 (r.low, in_range_between r.low (omega arith) r.ordered, refl)
