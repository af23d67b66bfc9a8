use Rattle.std.proofs.Common.{refl, arith}
use Rattle.cbf_sums.specs.Mixed.{ends_to}
use Rattle.cbf_sums.proofs.MarksLaws.{ends_more}
use Rattle.cbf_sums.proofs.mixed.ends.Goals as goal

pub loop-j-init : goal.loop-j-init
unfolding ends_to
loop-j-init c = (refl, omega arith)

pub overflow_add-count : goal.overflow_add-count
overflow_add-count c = omega (arith, c.end-count.ensures.1)

pub loop-j-preserved : goal.loop-j-preserved
loop-j-preserved c =
    let e = ends_more c.args.marks.now c.loop-j.j in
    (omega (arith, c.end-count.ensures.0), omega (arith, c.end-count.ensures.1))
