use Rattle.std.proofs.Common.{refl, arith}
use Rattle.std.proofs.lemmas.List.{get_or-replicate}
use Rattle.bits.proofs.set.Bits.none.Goals as goal

pub invariant_of-result : goal.invariant_of-result
invariant_of-result c = record { few = omega arith; bits = record { few = omega arith; rises = refl; below = λ k _ used. absurd (omega arith) }; free = λ k _ lt. get_or-replicate 12 k 1024 0 lt }
