use Rattle.std.proofs.Common.{◌+◌, ◌<◌, length, ◌∙◌, refl, arith, length-set}
use Rattle.cbf_sums.proofs.ModuloLaws.{window-mod, window-8, levels-more, under_more}
use Rattle.cbf_sums.proofs.mixed.levels.Goals as goal

pub loop-j-preserved : goal.loop-j-preserved
loop-j-preserved c =
    let l = c.loop-j in
    let here : 16 + l.j < length l.pixels = omega arith in (
      length-set l.pixels (16 + l.j) _ ∙ l.invariant.0,
      λ ds b W L. levels-more 65536 ds 16 b l.j (8 + l.j) _ _ l.pixels (l.invariant.1 ds b W L) (omega arith) here
          (window-mod 65536 ds 16 (window-8 65536 ds 16 192 c.args.fours.now W l.j c.loop-j-test.true) refl) refl,
      under_more l.pixels l.j l.all _ here l.invariant.2,
    )
