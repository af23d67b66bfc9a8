-- While the bitwise or is 0, so is each of the first j numbers in it.
use Rattle.std.proofs.Common.{◌≡◌, ℕ, ◌+◌, ◌<◌, get_or, bit_and, bit_or}
use Rattle.cbf_sums.proofs.mixed.apart.Given as goal

abbrev pub invariant-loop-j : goal.invariant-loop-j
invariant-loop-j l =
    l.all ≡ 0 → (k : ℕ) → k < l.j → bit_and (get_or l.marks (16 + k) 0) (bit_or (get_or l.marks (15 + k) 0) (get_or l.marks (14 + k) 0)) ≡ 0
