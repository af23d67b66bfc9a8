use Rattle.std.proofs.Common.{ℕ, ◌≡◌, ◌+◌, ◌%◌, ◌^◌, ◌<◌, get_or, ℤ, pos, ap, ◌∙◌, subst, arith}
use lib.Signed.{mag}
use Rattle.cbf_pixels.specs.Octets.{bits}
use Rattle.cbf_pixels.proofs.Integers.{held}
use Rattle.cbf_measure.proofs.RangeLaws.{gathered-more, word_held}
use Rattle.cbf_measure.proofs.range.gather.Goals as goal

pub loop-j-preserved : goal.loop-j-preserved
loop-j-preserved c =
    let l = c.loop-j in
    let a = c.args in
    let i : l.j ≡ 0 + l.j = omega arith in
    let z = get_or a.pixels.now l.j (pos 0) in
    let g : mag z < 2 ^ 63 = omega arith in
    let p = c.place-p in
    let e = p.ensures ∙ ap (λ (y : ℤ). (bits 8 y + a.below) % 2 ^ 64) (held z g ∙ ap (λ (j : ℕ). get_or a.pixels.now j (pos 0)) i) in
    gathered-more l.invariant (omega arith) (subst (λ (j : ℕ). mag (get_or a.pixels.now j (pos 0)) < 2 ^ 63) i g) p.result e _ (word_held p.result c.word_of.ensures)
