use Rattle.std.proofs.Common.{◌+◌, ◌%◌, ◌^◌, ◌<◌, get_or, ℤ, pos, ap, ◌∙◌, arith}
use lib.Signed.{mag}
use Rattle.cbf_pixels.specs.Octets.{bits}
use Rattle.cbf_pixels.proofs.Integers.{held}
use Rattle.cbf_measure.proofs.RangeLaws.{spread-more}
use Rattle.cbf_measure.proofs.range.spread.Goals as goal

pub loop-z-preserved : goal.loop-z-preserved
loop-z-preserved c =
    let z = get_or c.args.pixels.now c.loop-z.z-index (pos 0) in
    let g : mag z < 2 ^ 63 = omega arith in
    spread-more c.args.pixels.now c.args.below c.loop-z.z-index c.loop-z.all c.loop-z.invariant c.place-all.result g (c.place-all.ensures ∙ ap (λ (y : ℤ). (bits 8 y + c.args.below) % 2 ^ 64) (held z g))
