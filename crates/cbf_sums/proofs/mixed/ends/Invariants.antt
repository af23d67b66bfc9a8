-- The loop has counted the ends among the first j octets.
use Rattle.std.proofs.Common.{◌≡◌, ◌≤◌}
use Rattle.cbf_sums.specs.Mixed.{ends_to}
use Rattle.cbf_sums.proofs.mixed.ends.Given as goal

abbrev pub invariant-loop-j : goal.invariant-loop-j
invariant-loop-j l = (l.count ≡ ends_to l.marks l.j) × (l.count ≤ l.j)
