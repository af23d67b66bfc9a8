-- The loop has written the first j numbers.
use Rattle.cbf_sums.specs.Summing.{Written, four_at}
use Rattle.cbf_sums.proofs.near.fours.Given as goal

abbrev pub invariant-loop-j : goal.invariant-loop-j
invariant-loop-j l = Written (four_at l.octets l.i) l.j 1040 l.initial.sums l.sums
