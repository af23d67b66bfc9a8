use Rattle.std.proofs.Common.{arith}
use Rattle.cbf_sums.proofs.ModuloLaws.{written_none, written-more}
use Rattle.cbf_sums.proofs.mixed.halves.Goals as goal

pub loop-j-init : goal.loop-j-init
loop-j-init c = (written_none _ _ _ c.requires.3, written_none _ _ _ c.requires.4)

pub loop-j-preserved : goal.loop-j-preserved
loop-j-preserved c =
    let I = c.loop-j.invariant in (
      written-more _ _ _ _ _ _ I.0 (omega arith) (cc),
      written-more _ _ _ _ _ _ I.1 (omega arith) (cc),
    )
