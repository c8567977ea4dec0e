use Rattle.std.proofs.Common.{◌≡◌, ◌+◌, ◌*◌, ◌^◌, ◌<◌, length, drop}
use Rattle.kinds.specs.Masks.{least, largest}
use Rattle.kinds.proofs.masked.ends.Given as goal

abbrev pub invariant-loop-bit : goal.invariant-loop-bit
invariant-loop-bit g l =
    let alone = g.R.Alone.alone l.rule in
    let left = drop l.bit-index l.chosen in
    record {
      few : l.least < 4096;
      many : l.largest < 4096;
      least : l.least * 2 ^ length left + least alone left ≡ least alone l.chosen;
      largest : l.largest * 2 ^ length left + largest alone left ≡ largest alone l.chosen;
    }
