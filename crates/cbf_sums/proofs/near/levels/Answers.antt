use Rattle.std.proofs.Common.{◌+◌, ◌<◌, length, ◌∙◌, refl, arith, length-set}
use Rattle.cbf_sums.proofs.ModuloLaws.{window-mod, window-16, levels-more, under_more}
use Rattle.cbf_sums.proofs.near.levels.Goals as goal

pub loop-j-preserved : goal.loop-j-preserved
loop-j-preserved c =
    let l = c.loop-j in
    let more = c.add4-more in
    let here : 16 + l.j < length l.pixels = omega arith in (
      length-set l.pixels (16 + l.j) _ ∙ l.invariant.0,
      λ os i b W L. levels-more 256 os i b l.j l.j more.result _ l.pixels (l.invariant.1 os i b W L) (omega arith) here
          (window-mod 256 os i (window-16 256 os i c.args.n c.args.sums.now W l.j c.loop-j-test.true) more.ensures) refl,
      under_more l.pixels l.j l.all _ here l.invariant.2,
    )
