-- The loop has summed up the first j octets.
use Rattle.cbf_validate.specs.Validate.{Glides}
use Rattle.cbf_validate.proofs.validate.sum_run.Given as goal

abbrev pub invariant-loop-j : goal.invariant-loop-j
invariant-loop-j l = Glides l.octets l.i l.j l.total
