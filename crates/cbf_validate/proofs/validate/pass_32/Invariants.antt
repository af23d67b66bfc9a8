-- The loop has added the first 4 j pixels.
use Rattle.std.proofs.Common.{◌*◌}
use Rattle.cbf_sums.specs.Passes.{biased_least}
use Rattle.cbf_validate.specs.Validate.{Adds}
use Rattle.cbf_validate.proofs.validate.pass_32.Given as goal

abbrev pub invariant-loop-j : goal.invariant-loop-j
invariant-loop-j l = Adds l.octets (4 * l._j) l.fn.at.biased biased_least l.fn.at.next l.s.to.biased l.s.all l.s.to.next
