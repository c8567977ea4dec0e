-- The bits of a set rise with their values too.
use Rattle.std.proofs.Common.{◌≡◌, ℕ, ◌+◌, ◌≤◌, true, ltb, List, [], ◌∷◌, arith}
use Rattle.std.proofs.lemmas.Bool.{and_parts, ltb-true}
use Rattle.bits.specs.Sets.{rising}
use Rattle.bits.specs.Chosen.{IsBits}
use Rattle.kinds.specs.Values.{valued, Rises}

rises_from : (from cell b : ℕ) (bs : List ℕ) → rising (b ∷ bs) ≡ true → from ≤ b → Rises from (valued (b ∷ bs) cell)
rises_from from cell b [] up le = (le, tt)
rises_from from cell b (c ∷ cs) up le =
    let parts = and_parts (ltb b c) (rising (c ∷ cs)) up in
    (le, rises_from (b + 1) cell c cs parts.1 (omega (arith, ltb-true b c parts.0)))

pub bits_rise : (cell : ℕ) (bits : List ℕ) → IsBits bits → Rises 0 (valued bits cell)
bits_rise cell [] is = tt
bits_rise cell (b ∷ bs) is = rises_from 0 cell b bs is.rises (omega arith)
