use Rattle.std.proofs.Common.{◌-◌, ◌≤◌}
use Rattle.cbf_unpack.specs.Fill.{Filled}
use Rattle.cbf_unpack.proofs.fill.fill_part.Given as goal

-- j of the pixels are written
abbrev pub invariant-loop-j : goal.invariant-loop-j
invariant-loop-j l = (l.j ≤ l.count) × Filled l.octets l.fn.s.pixel l.fn.s.next l.j l.last.pixel l.last.next l.k l.initial.out l.out

abbrev pub decreases-loop-j : goal.decreases-loop-j
decreases-loop-j l = l.count - l.j
