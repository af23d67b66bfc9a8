-- `plain_blocks`: the loop has passed n plain octets.
use Rattle.std.proofs.Common.{◌-◌}
use Rattle.cbf_octets.specs.Plain.{PlainRun}
use Rattle.cbf_octets.proofs.plain.plain_blocks.Given as goal

abbrev pub invariant-loop-n : goal.invariant-loop-n
invariant-loop-n l = PlainRun l.octets l.i l.limit l.n

abbrev pub decreases-loop-n : goal.decreases-loop-n
decreases-loop-n l = l.limit - l.n
