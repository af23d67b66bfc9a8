-- The loop has summed up the first j numbers.
use Rattle.std.proofs.Common.{◌≡◌, ◌*◌, ◌≤◌}
use Rattle.cbf_sums.specs.Mixed.{raised_to}
use Rattle.cbf_sums.proofs.mixed.total.Given as goal

abbrev pub invariant-loop-j : goal.invariant-loop-j
invariant-loop-j l = (l.total ≡ raised_to l.added l.j) × (l.total ≤ 65535 * l.j)
