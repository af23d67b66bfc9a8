-- `write_128`: the pixels of the first fours are written.
use Rattle.std.proofs.Common.{◌*◌}
use Rattle.cbf_pack.proofs.WriteLaws.{Upto}
use Rattle.cbf_pack.proofs.write.write_128.Given as goal

abbrev pub invariant-loop-four : goal.invariant-loop-four
invariant-loop-four l = Upto l.pixels 0 128 l.last l.initial.out l.at (4 * l.four) l.out l.before l.next
