use Rattle.std.proofs.Common.{length, ap, ap₂, ◌∙◌, sym}
use Rattle.cbf_pixels.specs.Pixels.{all_within}
use Rattle.cbf_measure.specs.declared.measure.Bounds.{Bounds}
use Rattle.cbf_measure.proofs.MeasureLaws.{bounds-typed}
use Rattle.cbf_measure.proofs.RangeLaws.{held-within, all-each}
use Rattle.cbf_measure.proofs.measure.all_typed.Goals as goal

pub returns : goal.returns
returns c = λ e.
    let ps = c.args.pixels.now in
    let b = c.of-bounds in
    let l = ap (λ (b : Bounds). b.least) b.ensures in
    let g = ap (λ (b : Bounds). b.greatest) b.ensures in
    sym (ap₂ (λ lo hi. all_within lo hi ps) l g)
    ∙ all-each b.result.least b.result.greatest ps (held-within (bounds-typed c.args.kind l g) ps 0 (length ps) (c.each_within.ensures e))
