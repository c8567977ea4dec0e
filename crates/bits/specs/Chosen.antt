-- Sets of chosen bits.
--     IsBits   what every set promises
--     joins    whether a bit may join a set
-- Assumes nothing.
use Rattle.std.specs.Prelude.{◌≡◌, ℕ, ◌<◌, ◌≤◌, Bool, true, not, ◌&&◌, List, length, nat_lt}
use Rattle.std.specs.List.{All}
use Rattle.bits.specs.Sets.{rising, member}

pub record IsBits (bits : List ℕ) : Type 0 where
  pub few : length bits ≤ 12
  pub rises : rising bits ≡ true
  pub below : All (λ bit. bit < 1024) bits

-- it is a header's bit, and not in the set already
abbrev pub joins : ℕ → List ℕ → Bool
joins b bits = nat_lt b 1024 && not (member b bits)
