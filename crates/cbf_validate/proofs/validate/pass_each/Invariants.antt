-- The loop has passed the first j pixels.
use Rattle.std.proofs.Common.{◌+◌, ◌*◌, ◌≤◌}
use Rattle.cbf_sums.specs.Passes.{Passed}
use Rattle.cbf_validate.proofs.validate.pass_each.Given as goal

abbrev pub invariant-loop-j : goal.invariant-loop-j
invariant-loop-j l =
    Passed l.top l.octets l.fn.at.biased l.fn.at.next l._j l.to.biased l.to.next × (l.to.next ≤ l.fn.at.next + 15 * l._j)
