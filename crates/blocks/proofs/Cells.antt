-- The cell of a header: its number is one of a cell, and a rule that matches the header admits it.
use Rattle.std.proofs.Common.{◌≡◌, ℕ, ◌^◌, ◌<◌, true, List, length, ap, ◌∙◌}
use Rattle.bits.specs.Chosen.{IsBits}
use Rattle.kinds.specs.Meaning.{Meaning, Lawful}
use Rattle.kinds.specs.Values.{valued}
use Rattle.kinds.proofs.Numbers.{number_below, valued_own}
use Rattle.blocks.specs.Cells.{cell_of}

module _ {Header Rule Row : Type 0} (k : Meaning Header Rule Row) where
  pub cell_of_below : (bits : List ℕ) (h : Header) → cell_of k bits h < 2 ^ length bits
  cell_of_below bits h = number_below (k.bit h) bits

  pub admits_own : Lawful k → (r : Rule) (h : Header) → k.matches r h ≡ true → (bits : List ℕ) → IsBits bits → k.admits r (valued bits (cell_of k bits h)) ≡ true
  admits_own law r h m bits set = ap (k.admits r) (valued_own (k.bit h) bits) ∙ law.agrees r h m bits set
