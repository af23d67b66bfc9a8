use Rattle.std.proofs.Common.{refl, arith}
use Rattle.cbf_sums.specs.Mixed.{raised_to}
use Rattle.cbf_sums.proofs.LevelsLaws.{raised-more}
use Rattle.cbf_sums.proofs.mixed.total.Goals as goal

pub loop-j-init : goal.loop-j-init
unfolding raised_to
loop-j-init c = (refl, omega arith)

pub loop-j-preserved : goal.loop-j-preserved
loop-j-preserved c =
    let e = raised-more c.args.added.now c.loop-j.j in
    (omega arith, omega arith)
