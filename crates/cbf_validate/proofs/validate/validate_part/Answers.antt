use Rattle.std.proofs.Common.{◌+◌, ◌-◌, ℕ, ℤ, refl, sym, ap, ◌∙◌, subst, inl, inr, arith, w64, to_z, of_z}
use Rattle.cbf_octets.proofs.RestLaws.{enough}
use Rattle.cbf_pixels.proofs.Integers.{within_held}
use Rattle.cbf_sums.specs.Passes.{pixel_at, Between, biased_zero}
use Rattle.cbf_sums.proofs.PassesLaws.{passes_none, passes-fails, passed-more, zero-between, within-between}
use Rattle.cbf_validate.proofs.ValidateLaws.{top-at, invalid, valid}
use Rattle.cbf_validate.proofs.validate.validate_part.Goals as goal
use Rattle.cbf_validate.proofs.validate.validate_part.Goals.{then-loop-k-test+else-not-waits, else-loop-k-test}

pub loop-k-init : goal.loop-k-init
loop-k-init c =
    let top = c.biased_greatest-top in
    let start = c.biased_of in (
      omega arith,
      record {
        between = subst (λ (n : ℕ). Between n start.result) (sym top.ensures) start.ensures.0;
        passes = passes_none top.result c.args.octets.now start.result c.args.s.next;
        inside = c.requires.1;
      },
      λ _. refl,
    )

pub pass_turn-requires : goal.pass_turn-requires
pass_turn-requires c =
    let P = c.loop-k.invariant.1 in
    (top-at c.args.kind c.biased_greatest-top.ensures, P.between, P.inside, omega (arith, c.loop-k-test.true))

pub returns-in_err-t : goal.returns-in_err-t
returns-in_err-t c =
    let a = c.args in
    let os = a.octets.now in
    let top = c.biased_greatest-top in
    let start = c.biased_of in
    let l = c.loop-k in
    let left = a.count - l.k in
    let s = start.ensures.1 ∙ within_held a.kind a.s.pixel c.requires.0 in
    let w = c.waits.ensures.1 c.if-not-waits.true in
    rw c.from_residual.ensures
    (invalid a.kind os a.ended a.s.pixel a.s.next a.count top.result start.result top.ensures s (l.k + left)
    (λ tail b. passes-fails top.result os start.result a.s.next l.k left l.at.biased l.at.next tail l.invariant.1.passes
    (c.in_err-t.ensures tail (enough os tail l.at.next b w)))
    (omega (arith, l.invariant.0)))

pub loop-k-preserved : goal.loop-k-preserved
loop-k-preserved c =
    let a = c.args in
    let top = c.biased_greatest-top in
    let start = c.biased_of in
    let l = c.loop-k in
    let t = c.in_ok-t.t in
    let T = c.in_ok-t.ensures in (
      omega (arith, l.invariant.0, T.few),
      passed-more top.result a.octets.now start.result a.s.next l.k t.count l.at.biased l.at.next t.to.biased t.to.next
          l.invariant.1.passes T.passed,
      λ z. let y : ⊥ = omega (arith, T.some) in absurd y,
    )

pub returns : goal.returns
returns c =
    let a = c.args in
    let top = c.biased_greatest-top in
    let start = c.biased_of in
    let l = c.loop-k in
    let P = l.invariant.1 in
    let s = start.ensures.1 ∙ within_held a.kind a.s.pixel c.requires.0 in
    let b = subst (λ (n : ℕ). Between n l.at.biased) top.ensures P.between in
    let in_type = within-between a.kind (biased_zero a.kind) l.at.biased (zero-between a.kind) b in
    let held = ap (λ (z : ℤ). to_z w64 (of_z w64 z)) c.pixel_of.ensures ∙ within_held a.kind (pixel_at a.kind l.at.biased) in_type in
    valid a.kind a.octets.now a.ended a.s.pixel a.s.next a.count top.result start.result top.ensures s
    l.k l.at.biased l.at.next P.passes P.between l.invariant.0 P.inside l.invariant.2
    (elim c.loop-k-test.branch [
      | then-loop-k-test+else-not-waits w ↦ let e = w.waits.ensures.0 w.if-not-waits.false in inr (e.0, omega (arith, e.1))
      | else-loop-k-test w ↦ inl (omega (arith, l.invariant.0, w.loop-k-test.false))
    ])
    _ refl held refl
