use Rattle.std.proofs.Common.{◌≡◌, ◌%◌, ◌≤◌}
use Rattle.cbf_unpack.specs.Fill.{Filled}
use Rattle.cbf_unpack.proofs.fill.fill_32.Given as goal

-- j of the 32 pixels are written
abbrev pub invariant-loop-j : goal.invariant-loop-j
invariant-loop-j l = (l.j ≤ 32) × (l.j % 4 ≡ 0) × Filled l.octets l.fn.s.pixel l.fn.s.next l.j l.last.pixel l.last.next l.k l.initial.out l.out
