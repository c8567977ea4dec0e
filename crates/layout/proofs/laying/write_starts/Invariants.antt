use Rattle.std.proofs.Common.{◌≡◌, ℕ, ◌<◌, ◌≤◌, get_or, take, sum}
use Rattle.layout.proofs.laying.write_starts.Given as goal

abbrev pub invariant-loop-cell : goal.invariant-loop-cell
invariant-loop-cell l = record {
  start : l.start ≡ sum (take l.cell l.initial.numbers);
  starts : (c : ℕ) → c < l.cell → get_or l.starts c 0 ≡ sum (take c l.initial.numbers);
  numbers : (c : ℕ) → c < l.cell → get_or l.numbers c 0 ≡ sum (take c l.initial.numbers);
  sizes : (c : ℕ) → l.cell ≤ c → get_or l.numbers c 0 ≡ get_or l.initial.numbers c 0;
}
