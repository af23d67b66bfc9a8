-- The loop has written the first j numbers.
use Rattle.cbf_sums.specs.Summing.{Written}
use Rattle.cbf_sums.specs.Mixed.{mark_at}
use Rattle.cbf_sums.proofs.mixed.mark_each.Given as goal

abbrev pub invariant-loop-j : goal.invariant-loop-j
invariant-loop-j l = Written (mark_at l.octets l.i) l.j 208 l.initial.marks l.marks
