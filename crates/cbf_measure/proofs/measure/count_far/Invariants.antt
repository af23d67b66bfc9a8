-- `count_far`: four of the first j steps are far.
use Rattle.std.proofs.Common.{◌≡◌, ◌≤◌}
use Rattle.cbf_measure.specs.Measure.{far_steps}
use Rattle.cbf_measure.proofs.measure.count_far.Given as goal

abbrev pub invariant-loop-j : goal.invariant-loop-j
invariant-loop-j l = (l.four ≡ far_steps l.words l.j) × (l.four ≤ l.j)
