use Rattle.std.proofs.Common.{◌≡◌, ℕ, ◌^◌, ◌≤◌, ℤ, pos, nat_abs, ◌+ℤ◌, refl, ap, ◌∙◌, arith}
use Rattle.cbf_pixels.specs.Octets.{half, signed}
use Rattle.cbf_octets.proofs.PlainLaws.{signed-small}
use Rattle.cbf_validate.proofs.ValidateLaws.{held-is, held_small, adds-plain}
use Rattle.cbf_validate.proofs.validate.add_block.Goals as goal

pub extended-requires : goal.extended-requires
extended-requires c = record { exponent = 7; power = refl; small = omega arith; fits = omega arith }

plain-small : (d : ℤ) (o : ℕ) → d ≡ signed 1 o → nat_abs d ≤ 2 ^ 36
plain-small d o e = let h = signed-small o in let f = ap nat_abs e in omega arith

pub sum-biased-requires : goal.sum-biased-requires
unfolding half
sum-biased-requires c =
    let I = c.loop-j.invariant in
    let S = c.requires.2 in
    let l = I.low in
    let h = I.high in
    let d = c.extended.result in
    (omega (arith, S.0), omega (arith, S.1), held_small d (plain-small d c.from.result (c.extended.ensures 1 refl)))

pub loop-j-preserved : goal.loop-j-preserved
unfolding half
loop-j-preserved c =
    let a = c.args in
    let p = c.requires in
    let l = c.loop-j in
    let low = l.invariant.low in
    let high = l.invariant.high in
    let d = c.extended.result in
    let e = c.extended.ensures 1 refl in
    adds-plain a.octets.now l.j a.s.to.biased a.s.all a.s.to.next l.biased l.all c.sum-biased.result d l.invariant
    (omega (arith, p.2.0), omega (arith, p.2.1)) (omega (arith, p.0)) (p.1 l.j c.loop-j-test.true) (e ∙ ap (signed 1) c.from.ensures)
    (c.sum-biased.ensures ∙ ap (λ (z : ℤ). pos l.biased +ℤ z) (held-is d (plain-small d c.from.result e)))
