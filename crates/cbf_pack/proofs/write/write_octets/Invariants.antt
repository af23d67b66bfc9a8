-- `write_octets`: the first k pixels are written, and a few octets behind them that the pixels left write over.
use Rattle.std.proofs.Common.{◌-◌, length, pos}
use Rattle.cbf_pack.proofs.DenseLaws.{Along}
use Rattle.cbf_pack.proofs.write.write_octets.Given as goal

abbrev pub invariant-loop-k : goal.invariant-loop-k
invariant-loop-k l = Along l.pixels 0 (length l.pixels) (pos 0) l.initial.out l.start l.k l.out l.last l.at (length l.pixels - l.k)

abbrev pub decreases-loop-k : goal.decreases-loop-k
decreases-loop-k l = length l.pixels - l.k
