-- `octet_count`: the pixels before k are measured.
use Rattle.std.proofs.Common.{◌-◌, ◌*◌, ◌≤◌, length, pos}
use Rattle.cbf_measure.proofs.MeasureLaws.{Measured}
use Rattle.cbf_measure.proofs.measure.octet_count.Given as goal

abbrev pub invariant-loop-k : goal.invariant-loop-k
invariant-loop-k l =
    Measured l.pixels l.bounds.least l.bounds.greatest 0 l.k (pos 0) l.last l.total × (l.k ≤ length l.pixels) × (l.total ≤ 15 * l.k)

abbrev pub decreases-loop-k : goal.decreases-loop-k
decreases-loop-k l = length l.pixels - l.k
