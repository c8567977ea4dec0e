-- What was chosen can be laid: its table fits, and the tally is long enough.
use Rattle.std.proofs.Common.{◌≡◌, ℕ, ◌^◌, ◌≤◌, false, ltb, List, length, Option, Ok, refl, arith}
use Rattle.std.proofs.Math.Pow.{pow_mono}
use Rattle.std.proofs.lemmas.Bool.{ltb-false, le-ltb}
use Rattle.kinds.specs.Meaning.{Meaning}
use Rattle.blocks.specs.Blocks.{table_size, Fits}
use Rattle.choice.specs.declared.limits.Limits.{Limits}
use Rattle.table.specs.Checks.{verdict, room_checks, choice_checks}
use Rattle.table.proofs.Calls.{all_pass}

module _ {Header Rule Row : Type 0} (k : Meaning Header Rule Row) (rules : List (Option Rule)) where
  pub has_room : (bits : List ℕ) (tally room : ℕ) → 2 ^ length bits ≤ tally → Fits k rules bits room → verdict (room_checks k rules bits tally room) ≡ Ok tt
  has_room bits tally room long fits = rw (le-ltb tally (2 ^ length bits) long, le-ltb room (table_size k rules bits) fits) refl

  pub chosen_room : (bits : List ℕ) (limits : Limits) (tally room : ℕ) → verdict (choice_checks k rules limits tally room) ≡ Ok tt → length bits ≤ limits.most_bits → Fits k rules bits room → verdict (room_checks k rules bits tally room) ≡ Ok tt
  chosen_room bits limits tally room passed few fits =
      let long : ltb tally (2 ^ limits.most_bits) ≡ false = (all_pass (choice_checks k rules limits tally room) passed).1.0 in
      let enough : 2 ^ length bits ≤ 2 ^ limits.most_bits = pow_mono few in
      has_room bits tally room (omega (arith, ltb-false tally (2 ^ limits.most_bits) long)) fits
