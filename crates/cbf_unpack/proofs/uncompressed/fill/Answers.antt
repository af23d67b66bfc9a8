-- k of the pixels are written, each in its place.
use mathlib.Core.Path.{◌∙◌}
use native.Mathlib.Omega.{arith}
use Rattle.cbf_pixels.proofs.Integers.{held}
use Rattle.cbf_unpack.proofs.UncompressedLaws.{pixel_after, front-none, front-more, loaded}
use Rattle.cbf_unpack.proofs.uncompressed.fill.Goals as goal

pub loop-k-init : goal.loop-k-init
loop-k-init c = front-none _ _ c.args.octets.now c.args.out.now

pub loop-k-preserved : goal.loop-k-preserved
unfolding pixel_after
loop-k-preserved c =
    let a = c.args in
    let l = c.loop-k in
    let F = l.invariant in
    front-more _ _ l.k a.octets.now a.out.now l.out _ F (omega (arith, F.size)) (held c.pixel_at.result c.pixel_at.type_inv ∙ c.pixel_at.ensures)

pub returns : goal.returns
returns c =
    let a = c.args in
    let l = c.loop-k in
    loaded a.kind _ _ l.k a.count a.octets.now a.out.now l.out c.is_signed-signed.ensures c.octets_per-width.ensures.0 l.invariant (omega arith) c.requires.0
