-- The loop has passed k pixels, and there are more; octets are behind them for a part, as far as there are for any.
use Rattle.std.proofs.Common.{◌-◌, ◌<◌, List, ℕ}
use Rattle.cbf_octets.specs.Rest.{Enough}
use Rattle.cbf_sums.specs.Passes.{Passed}
use Rattle.cbf_validate.proofs.turn.pass_singles.Given as goal

abbrev pub invariant-loop-to : goal.invariant-loop-to
invariant-loop-to l =
    (l.k < l.left) × Passed l.top l.octets l.fn.at.biased l.fn.at.next l.k l.to.biased l.to.next
    × ((tail : List ℕ) → Enough l.octets tail l.fn.at.next 480 → Enough l.octets tail l.to.next 480)

abbrev pub decreases-loop-to : goal.decreases-loop-to
decreases-loop-to l = l.left - l.k
