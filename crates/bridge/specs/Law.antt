-- The bridge kind's law.
-- Proofs alone, which the code names: nothing here has to be believed.
use Rattle.std.proofs.Common.{arith}
use Rattle.kinds.specs.Meaning.{Lawful}
use Rattle.kinds.specs.Bits.{mask_admits, bit_of}
use Rattle.kinds.proofs.Under.{mask_agrees}
use Rattle.kinds.proofs.Rows.{fields_lawful, each_own}
use Rattle.bridge.specs.Bridge.{bridge, fields, masked}
use Rattle.kinds.specs.Fields.{LawfulField}
use Rattle.bridge.specs.declared.octets.Octets.{Octets}
use Rattle.std.specs.Prelude.{ℕ, refl}

masked_lawful : (width : ℕ) (part : Octets → ℕ) → LawfulField (masked width part)
masked_lawful width part = record {
  agrees = λ r n e bits. each_own (mask_admits width (part r.value) (part r.mask)) (bit_of width n) (λ b. mask_agrees width (part r.value) (part r.mask) n b e) bits;
  yes_to_none = λ r. refl;
}

pub bridge_lawful : Lawful bridge
bridge_lawful = fields_lawful fields _ (omega arith) (omega arith) (masked_lawful 64 _, (masked_lawful 32 _, (masked_lawful 16 _, tt)))
