-- The loop has passed k pixels.
use Rattle.std.proofs.Common.{◌≡◌, ◌-◌, ◌≤◌}
use Rattle.cbf_sums.specs.Passes.{Passed}
use Rattle.cbf_validate.proofs.validate.validate_part.Given as goal

abbrev pub invariant-loop-k : goal.invariant-loop-k
invariant-loop-k l =
    (l.k ≤ l.count) × Passed l.top l.octets l.initial.at.biased l.initial.at.next l.k l.at.biased l.at.next
    × (l.k ≡ 0 → l.at.next ≡ l.initial.at.next)

abbrev pub decreases-loop-k : goal.decreases-loop-k
decreases-loop-k l = l.count - l.k
