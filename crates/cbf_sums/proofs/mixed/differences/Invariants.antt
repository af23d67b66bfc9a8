-- The loop has written the first j numbers.
use Rattle.cbf_sums.specs.Summing.{Written}
use Rattle.cbf_sums.specs.Mixed.{joined_at}
use Rattle.cbf_sums.proofs.mixed.differences.Given as goal

abbrev pub invariant-loop-j : goal.invariant-loop-j
invariant-loop-j l = Written (joined_at l.low l.high) l.j 208 l.initial.added l.added
