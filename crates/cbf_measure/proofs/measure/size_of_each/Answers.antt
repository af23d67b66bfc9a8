use Rattle.std.proofs.Common.{◌^◌, ◌<◌, get_or, ℤ, pos, ap, ◌∙◌, arith, to_z-of_z, w64, to_z, of_z}
use lib.Signed.{mag}
use Rattle.cbf_pixels.proofs.Integers.{held}
use Rattle.cbf_measure.specs.Measure.{size_within}
use Rattle.cbf_measure.proofs.MeasureLaws.{measured-none, one_more, one_out, measured_all}
use Rattle.cbf_measure.proofs.measure.size_of_each.Goals as goal

pub loop-z-init : goal.loop-z-init
loop-z-init c =
    let a = c.args in
    (rw (to_z-of_z {w = w64} c.ranges.last) (measured-none a.pixels.now a.bounds.least a.bounds.greatest 0 a.last c.requires.0), omega arith)

pub returns-in_err-total-clause-size : goal.returns-in_err-total-clause-size
returns-in_err-total-clause-size c =
    let a = c.args in
    let z = get_or a.pixels.now c.loop-z.z-index (pos 0) in
    let g : mag z < 2 ^ 63 = omega arith in
    c.from_residual.ensures
    ∙ one_out c.loop-z.invariant.0 (to_z w64 (of_z w64 z)) c.loop-z-test.true (held z g) c.in_err-total.ensures.size
    ∙ ap (λ (l : ℤ). size_within a.bounds.least a.bounds.greatest l a.pixels.now) (to_z-of_z {w = w64} c.ranges.last)

pub loop-z-preserved : goal.loop-z-preserved
loop-z-preserved c =
    let z = get_or c.args.pixels.now c.loop-z.z-index (pos 0) in
    let g : mag z < 2 ^ 63 = omega arith in
    let n = c.in_ok-total in (
      one_more c.loop-z.invariant.0 n.field-0 (to_z w64 (of_z w64 z)) c.loop-z-test.true (held z g) n.ensures.size,
      omega (arith, n.ensures.few, c.loop-z.invariant.1),
    )

pub returns-clause-size : goal.returns-clause-size
returns-clause-size c =
    let a = c.args in
    measured_all c.loop-z.invariant.0 (omega arith)
    ∙ ap (λ (l : ℤ). size_within a.bounds.least a.bounds.greatest l a.pixels.now) (to_z-of_z {w = w64} c.ranges.last)
