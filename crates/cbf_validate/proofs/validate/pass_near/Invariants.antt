-- The loop has passed the first j octets.
use Rattle.std.proofs.Common.{◌≡◌, ◌+◌, ◌-◌, ◌%◌, ◌≤◌}
use Rattle.cbf_sums.specs.Passes.{Passed}
use Rattle.cbf_validate.proofs.validate.pass_near.Given as goal

abbrev pub invariant-loop-j : goal.invariant-loop-j
invariant-loop-j l = (l.j ≤ l.n) × (l.j % 32 ≡ 0) × Passed l.top l.octets l.at.biased l.at.next l.j l.last (l.at.next + l.j)

abbrev pub decreases-loop-j : goal.decreases-loop-j
decreases-loop-j l = l.n - l.j
