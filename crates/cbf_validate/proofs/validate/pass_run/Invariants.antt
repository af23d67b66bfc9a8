-- The loop has summed up the first 32 j octets, and none of their pixels was outside its type.
use Rattle.std.proofs.Common.{◌≡◌, ◌+◌, ◌*◌, ◌≤◌}
use Rattle.cbf_validate.specs.Validate.{Summed}
use Rattle.cbf_validate.proofs.validate.pass_run.Given as goal

abbrev pub invariant-loop-j : goal.invariant-loop-j
invariant-loop-j l =
    (l.s.all ≤ l.top) × (l.s.to.next ≡ l.fn.at.next + 32 * l._j) × Summed l.top l.octets l.fn.at.biased l.fn.at.next (32 * l._j) l.s.to.biased l.s.all l.s.to.next
