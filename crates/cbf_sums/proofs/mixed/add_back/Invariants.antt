-- The loop has written the first j numbers.
use Rattle.cbf_sums.specs.Summing.{Written, back_at}
use Rattle.cbf_sums.proofs.mixed.add_back.Given as goal

abbrev pub invariant-loop-j : goal.invariant-loop-j
invariant-loop-j l = Written (back_at 65536 l.numbers l.back) l.j 208 l.initial.sums l.sums
