use Rattle.std.proofs.Common.{arith}
use Rattle.cbf_validate.proofs.ValidateLaws.{glides-none, glides-more}
use Rattle.cbf_validate.proofs.validate.sum_run.Goals as goal

pub loop-j-init : goal.loop-j-init
loop-j-init c = glides-none c.args.octets.now c.args.i

pub loop-j-preserved : goal.loop-j-preserved
loop-j-preserved c =
    let a = c.args in
    let p = c.requires in
    let l = c.loop-j in
    let r = c.raised-total in
    glides-more a.octets.now a.i l.j l.total r.result l.invariant (omega (arith, p.0)) (p.1 l.j c.loop-j-test.true) r.ensures.0 r.ensures.1
