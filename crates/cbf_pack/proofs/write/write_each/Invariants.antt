-- `write_each`: the pixels so far are written.
use Rattle.std.proofs.Common.{length}
use Rattle.cbf_pack.proofs.WriteLaws.{Upto}
use Rattle.cbf_pack.proofs.write.write_each.Given as goal

abbrev pub invariant-loop-z : goal.invariant-loop-z
invariant-loop-z l = Upto l.pixels 0 (length l.pixels) l.last l.initial.out l.at l.z-index l.out l.before l.next
