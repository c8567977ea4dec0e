-- The law of kinds, for the narrow kind. Proofs alone, which the code names: nothing here has to be believed.
use Rattle.std.proofs.Common.{◌≡◌, ℕ, true, ◌&&◌, refl, arith}
use Rattle.std.proofs.lemmas.Bool.Decides.{nat_tests}
use Rattle.kinds.specs.Meaning.{Lawful}
use Rattle.kinds.proofs.Rows.{each_own}
use Rattle.choice_tests.specs.Narrow.{narrow, same, pair_bit}
use Rattle.choice_tests.specs.declared.narrow.Pair.{Pair}

own : (rule header : Pair) → (same rule.first header.first && same rule.second header.second) ≡ true → (b : ℕ) → same (pair_bit rule b) (pair_bit header b) ≡ true
own rule header matches b = grind (arith, nat_tests)

pub narrow_lawful : Lawful narrow
narrow_lawful = record {
  some_bits = omega arith;
  few_bits = omega arith;
  agrees = λ rule header matches bits _. each_own (λ b value. same (pair_bit rule b) value) (pair_bit header) (own rule header matches) bits;
  yes_to_none = λ rule. refl;
  zero_beyond = λ header b beyond. grind (arith, nat_tests);
  only_zero_beyond = λ rule b value beyond. grind (arith, nat_tests);
}
