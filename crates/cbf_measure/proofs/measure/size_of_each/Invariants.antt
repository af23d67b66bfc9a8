-- `size_of_each`: the pixels so far are measured.
use Rattle.std.proofs.Common.{◌*◌, ◌≤◌}
use Rattle.cbf_measure.proofs.MeasureLaws.{Measured}
use Rattle.cbf_measure.proofs.measure.size_of_each.Given as goal

abbrev pub invariant-loop-z : goal.invariant-loop-z
invariant-loop-z l = Measured l.pixels l.bounds.least l.bounds.greatest 0 l.z-index l.last l.before l.total × (l.total ≤ 15 * l.z-index)
