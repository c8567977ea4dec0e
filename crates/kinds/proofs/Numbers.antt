-- The number made of the values at some bits, and its digits.
use Rattle.std.proofs.Common.{ap₂, ◌≡◌, ℕ, zero, suc, ◌+◌, ◌*◌, ◌%◌, ◌^◌, ◌<◌, ◌≤◌, Bool, true, false, eqb, ◌==◌, List, [], ◌∷◌, length, refl, ap, ◌∙◌, mul_assoc, add-mul, arith, mul-le-mul, pow_mono}
use native.Mathlib.Nat.{two-pow-succ}
use mir.Val.{bool_byte}
use Rattle.std.proofs.lemmas.Nat.{shr_high, mod-mul-add}
use Rattle.kinds.specs.Bits.{digit}
use Rattle.kinds.specs.Values.{weigh, number_of, with_values, valued}

pub weighed : (v : Bool) (n : ℕ) → weigh v n ≡ bool_byte v * 2 ^ n
weighed true n = omega arith
weighed false n = omega arith

-- one more digit in front: it moves from below the higher digits to their end
pub regroup : (v : Bool) (hi n c : ℕ) → hi * 2 ^ suc n + (weigh v n + c) ≡ (hi * 2 + bool_byte v) * 2 ^ n + c
regroup v hi n c = let twice : 2 * 2 ^ n ≡ 2 ^ suc n = omega (arith, two-pow-succ n) in omega (arith, weighed v n, ap (λ x. hi * x) twice, add-mul (hi * 2) (bool_byte v) (2 ^ n), mul_assoc hi 2 (2 ^ n))

odd : (hi : ℕ) (v : Bool) → eqb ((hi * 2 + bool_byte v) % 2) 1 ≡ v
odd hi true = ap (λ x. eqb x 1) (mod-mul-add hi 2 1 (omega arith))
odd hi false = ap (λ x. eqb x 1) (mod-mul-add hi 2 0 (omega arith))

pub digit_here : (hi n c : ℕ) (v : Bool) → c < 2 ^ n → digit ((hi * 2 + bool_byte v) * 2 ^ n + c) n ≡ v
digit_here hi n c v h = ap (λ x. eqb (x % 2) 1) (shr_high (hi * 2 + bool_byte v) n c h) ∙ odd hi v

pub is_byte : (d : ℕ) → d < 2 → bool_byte (d == 1) ≡ d
is_byte zero h = refl
is_byte (suc zero) h = refl
is_byte (suc (suc d)) h = absurd (omega arith)

pub byte_few : (v : Bool) → bool_byte v ≤ 1
byte_few true = omega arith
byte_few false = omega arith

few : (v : Bool) {c : ℕ} (n : ℕ) → c < 2 ^ n → weigh v n + c < 2 ^ suc n
few true n lt = omega (arith, two-pow-succ n)
few false n lt = omega (arith, two-pow-succ n)

-- the number made of the values at some bits, and how a loop over the bits makes it
module _ (value : ℕ → Bool) where
  pub number_below : (bits : List ℕ) → number_of value bits < 2 ^ length bits
  number_below [] = omega arith
  number_below (b ∷ bs) = few (value b) (length bs) (number_below bs)

  -- one turn of the loop: the first of the bits left moves from below the weights into the number
  pub number_turn : {left behind : List ℕ} {b byte : ℕ} {v : Bool} (bits : List ℕ) (number : ℕ) → left ≡ b ∷ behind → v ≡ value b → byte ≡ bool_byte v → number * 2 ^ length left + number_of value left ≡ number_of value bits → (2 * number + byte) * 2 ^ length behind + number_of value behind ≡ number_of value bits
  number_turn {behind = behind} {b = b} {byte = byte} bits number is told told_byte so_far =
      let n = length behind in
      let moved : (2 * number + byte) * 2 ^ n ≡ (number * 2 + bool_byte (value b)) * 2 ^ n = ap (λ (d : ℕ). d * 2 ^ n) (omega (arith, told_byte, ap bool_byte told)) in
      omega (arith, moved, regroup (value b) number n (number_of value behind), rw is at so_far)

  -- with no bit left it is the number
  pub number_last : {left : List ℕ} (bits : List ℕ) (number : ℕ) → left ≡ [] → number * 2 ^ length left + number_of value left ≡ number_of value bits → number ≡ number_of value bits
  number_last bits number none so_far = omega (arith, rw none at so_far)

  -- the number so far is one of a cell too
  pub number_few : (bits left : List ℕ) (number : ℕ) → length bits ≤ 12 → number * 2 ^ length left + number_of value left ≡ number_of value bits → number < 4096
  number_few bits left number few so_far =
      let most : 2 ^ length bits ≤ 4096 = pow_mono {j = 12} few in
      let weight : 1 ≤ 2 ^ length left = pow_mono {i = 0} {j = length left} (omega arith) in
      let part : number * 1 ≤ number * 2 ^ length left = mul-le-mul (omega arith) weight in
      omega (arith, number_below bits)

  -- the digits of that number, behind any others, are the values
  own_under : (bits : List ℕ) (hi i : ℕ) → i ≡ hi * 2 ^ length bits + number_of value bits → valued bits i ≡ with_values value bits
  own_under [] hi i e = refl
  own_under (b ∷ bs) hi i e =
      let n = length bs in
      let at : i ≡ (hi * 2 + bool_byte (value b)) * 2 ^ n + number_of value bs = e ∙ regroup (value b) hi n (number_of value bs) in
      ap₂ (λ (d : Bool) (rest : List (ℕ × Bool)). (b, d) ∷ rest) (rw at (digit_here hi n (number_of value bs) (value b) (number_below bs))) (own_under bs (hi * 2 + bool_byte (value b)) i at)

  pub valued_own : (bits : List ℕ) → valued bits (number_of value bits) ≡ with_values value bits
  valued_own bits = own_under bits 0 (number_of value bits) (omega arith)
