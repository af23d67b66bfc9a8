-- `write_block`: the first j pixels are written, in an octet each.
use Rattle.std.proofs.Common.{◌+◌}
use Rattle.cbf_pack.proofs.WriteLaws.{Upto}
use Rattle.cbf_pack.proofs.write.write_block.Given as goal

abbrev pub invariant-loop-j : goal.invariant-loop-j
invariant-loop-j l = Upto l.block 0 32 l.last l.initial.out l.at l.j l.out l.before (l.at + l.j)
