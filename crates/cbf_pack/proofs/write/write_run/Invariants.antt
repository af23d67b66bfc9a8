-- `write_run`: the pixels of the first blocks are written, in an octet each.
use Rattle.std.proofs.Common.{◌+◌, ◌*◌, length}
use Rattle.cbf_pack.proofs.WriteLaws.{Upto}
use Rattle.cbf_pack.proofs.write.write_run.Given as goal

abbrev pub invariant-loop-b : goal.invariant-loop-b
invariant-loop-b l = Upto l.run 0 (length l.run) l.last l.initial.out l.at (32 * l.b) l.out l.before (l.at + 32 * l.b)
