-- The loop has added the first j octets.
use Rattle.std.proofs.Common.{◌+◌}
use Rattle.cbf_validate.specs.Validate.{Adds}
use Rattle.cbf_validate.proofs.validate.add_block.Given as goal

abbrev pub invariant-loop-j : goal.invariant-loop-j
invariant-loop-j l = Adds l.octets l.j l.initial.biased l.initial.all l.i l.biased l.all (l.i + l.j)
