use Rattle.std.proofs.Common.{◌+◌}
use Rattle.cbf_unpack.specs.Fill.{Filled}
use Rattle.cbf_unpack.proofs.fill.fill_block.Given as goal

-- j of the 32 pixels are written
abbrev pub invariant-loop-j : goal.invariant-loop-j
invariant-loop-j l = Filled l.octets l.pixel l.i l.j l.z (l.i + l.j) l.k l.initial.out l.out
