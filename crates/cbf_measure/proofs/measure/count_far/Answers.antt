use Rattle.std.proofs.Common.{◌+◌, get_or, pos, ◌-ℤ◌, nat_abs, sym, ◌∙◌, ap₂, arith}
use Rattle.cbf_measure.proofs.RangeLaws.{far_none, far-more, held-32}
use Rattle.cbf_measure.proofs.measure.count_far.Goals as goal

pub loop-j-init : goal.loop-j-init
loop-j-init c = (sym (far_none _), omega arith)

pub loop-j-preserved : goal.loop-j-preserved
loop-j-preserved c =
    let l = c.loop-j in
    let w = c.args.words.now in
    let gap = c.abs_diff.ensures
    ∙ ap₂ (λ y z. nat_abs (y -ℤ z)) (held-32 (get_or w (l.j + 1) (pos 0)) (omega arith)) (held-32 (get_or w l.j (pos 0)) (omega arith)) in
    let f = far-more w l.j c.abs_diff.result gap in
    (omega (arith, c.beyond-four.ensures.0, l.invariant.0), omega (arith, c.beyond-four.ensures.1, l.invariant.1))
