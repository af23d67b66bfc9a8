use Rattle.std.proofs.Common.{◌+◌, ◌*◌, ◌≤◌, ℕ, sym, subst, arith}
use Rattle.cbf_octets.specs.Plain.{Plain}
use Rattle.cbf_octets.proofs.PlainLaws.{plain-part}
use Rattle.cbf_sums.proofs.PassesLaws.{top_small}
use Rattle.cbf_validate.proofs.ValidateLaws.{summed-start, summed-not}
use Rattle.cbf_validate.proofs.validate.pass_run.Goals as goal

pub loop-j-init : goal.loop-j-init
loop-j-init c =
    let a = c.args in
    let b = c.requires.1 in
    (omega (arith, b.0, b.1), omega arith, summed-start a.top a.octets.now a.at.biased a.at.next b)

pub add_block-s-requires : goal.add_block-s-requires
add_block-s-requires c =
    let a = c.args in
    let p = c.requires in
    let l = c.loop-j in
    let I = l.invariant in
    let G = (I.2.good I.0).0 in
    let small = top_small a.top p.0 in
    let m : 32 * l._j + 32 ≤ a.n = omega arith in (
      omega (arith, p.2),
      subst (λ (k : ℕ). Plain a.octets.now k 32) (sym I.1) (plain-part a.octets.now a.at.next (32 * l._j) a.n 32 p.3 m),
      (omega (arith, G.0), omega (arith, G.1)),
    )

pub returns-then-top-s-clause-stepped : goal.returns-then-top-s-clause-stepped
returns-then-top-s-clause-stepped c =
    let a = c.args in
    let l = c.loop-j in
    let r = c.add_block-s.result in
    let X = c.add_block-s.ensures.0.sums a.top a.at.biased a.at.next (32 * l._j) c.requires.0 l.invariant.2 in
    summed-not a.top a.octets.now a.at.biased a.at.next (32 * l._j + 32) r.to.biased r.all r.to.next a.n X c.if-top-s.true (omega arith)
