use Rattle.std.proofs.Common.{arith}
use Rattle.cbf_sums.proofs.ModuloLaws.{written_none, written-more}
use Rattle.cbf_sums.proofs.near.fours.Goals as goal

pub loop-j-init : goal.loop-j-init
loop-j-init c = written_none _ _ _ c.requires.3

pub loop-j-preserved : goal.loop-j-preserved
loop-j-preserved c = written-more _ _ _ _ _ _ c.loop-j.invariant (omega arith) c.add4.ensures
