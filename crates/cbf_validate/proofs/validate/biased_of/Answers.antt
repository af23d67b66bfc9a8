use Rattle.std.proofs.Common.{ℕ, ℤ, pos, ◌+ℤ◌, ap, ◌∙◌, arith}
use Rattle.cbf_pixels.proofs.Integers.{within-small, within_held}
use Rattle.cbf_pixels.proofs.Numbers.{abs-le}
use Rattle.cbf_validate.proofs.ValidateLaws.{zero-small, held_small, pixel-at, pixel-between}
use Rattle.cbf_validate.proofs.validate.biased_of.Goals as goal

pub sum-requires : goal.sum-requires
sum-requires c =
    let a = c.args in
    let h = zero-small a.kind in
    let e = c.biased_zero.ensures in
    (omega (arith, h.0), omega (arith, h.1), held_small a.pixel (omega (arith, abs-le a.pixel (within-small a.kind a.pixel c.requires))))

pub returns : goal.returns
returns c =
    let a = c.args in
    let w = c.requires in
    let zero = c.biased_zero in
    let r = c.sum.result in
    let e = c.sum.ensures ∙ ap (λ (z : ℤ). pos zero.result +ℤ z) (within_held a.kind a.pixel w)
    ∙ ap (λ (n : ℕ). pos n +ℤ a.pixel) zero.ensures in
    (pixel-between a.kind a.pixel r e w, pixel-at a.kind a.pixel r e)
