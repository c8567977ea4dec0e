-- Fast-Growth: a set of bits grows, one bit at a time, while that gains.
--     Fits, cost   what sets of bits are judged by: whether their table fits, and what it costs
--     is_free      whether a bit is not chosen
--     Addable      a bit may be added: it is a header's, not chosen, and its table fits
--     Best         the addable bit that costs least, the lowest number among equals
--     Gains        the best bit makes a set that costs less
--     Grown        from a set, the set at which growth ends
-- Assumes nothing.
use Rattle.std.specs.Prelude.{◌≡◌, ℕ, ◌<◌, ◌≤◌, Bool, true, not, List, length}
use Rattle.bits.specs.Sets.{member, with_bit}

abbrev pub is_free : List ℕ → ℕ → Bool
is_free bits b = not (member b bits)

module _ (Fits : List ℕ → Type 0) where
  pub record Addable (width : ℕ) (bits : List ℕ) (b : ℕ) : Type 0 where
    pub below : b < width
    pub free : is_free bits b ≡ true
    pub fits : Fits (with_bit b bits)

  module _ (cost : List ℕ → ℕ) where
    pub record Best (width : ℕ) (bits : List ℕ) (b : ℕ) : Type 0 where
      pub addable : Addable width bits b
      pub least : (c : ℕ) → Addable width bits c → cost (with_bit b bits) ≤ cost (with_bit c bits)
      pub lowest : (c : ℕ) → Addable width bits c → cost (with_bit c bits) ≡ cost (with_bit b bits) → b ≤ c

    pub record Gains (width : ℕ) (bits : List ℕ) (b : ℕ) : Type 0 where
      pub best : Best width bits b
      pub less : cost (with_bit b bits) < cost bits

    -- it ends at so many bits, where no bit may be added, or where the best one gains nothing
    pub data Grown (width most : ℕ) : List ℕ → List ℕ → Type 0 where
      full : {bits : List ℕ} → most ≤ length bits → Grown width most bits bits
      stuck : {bits : List ℕ} → length bits < most → ((b : ℕ) → Addable width bits b → ⊥) → Grown width most bits bits
      no_gain : {bits : List ℕ} → length bits < most → (b : ℕ) → Best width bits b → cost bits ≤ cost (with_bit b bits) → Grown width most bits bits
      grow : {bits end : List ℕ} → length bits < most → (b : ℕ) → Gains width bits b → Grown width most (with_bit b bits) end → Grown width most bits end
