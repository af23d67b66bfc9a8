-- The loop has written the first j octets.
use Rattle.cbf_sums.specs.Summing.{Written}
use Rattle.cbf_sums.specs.Mixed.{low_at, high_at}
use Rattle.cbf_sums.proofs.mixed.halves.Given as goal

abbrev pub invariant-loop-j : goal.invariant-loop-j
invariant-loop-j l =
    Written (low_at l.octets l.i l.marks) l.j 208 l.initial.low l.low × Written (high_at l.octets l.i l.marks) l.j 208 l.initial.high l.high
