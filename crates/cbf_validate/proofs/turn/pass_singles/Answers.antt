use Rattle.std.proofs.Common.{refl, inr, arith}
use Rattle.cbf_sums.proofs.PassesLaws.{passes_none, passed-more, failed-more}
use Rattle.cbf_validate.proofs.turn.pass_singles.Goals as goal

pub loop-to-init : goal.loop-to-init
loop-to-init c =
    let a = c.args in
    let p = c.requires in (
      p.3,
      record { between = p.1; passes = passes_none a.top a.octets.now a.at.biased a.at.next; inside = p.2 },
      λ tail e. e,
    )

pub returns-in_err-to : goal.returns-in_err-to
returns-in_err-to c =
    let a = c.args in
    let l = c.loop-to in
    let I = l.invariant in
    rw c.from_residual.ensures
    (failed-more a.top a.octets.now a.at.biased a.at.next l.k c.part-n.result a.left l.to.biased l.to.next I.1.passes I.2
    (omega (arith, c.part-n.ensures.0, I.0)) c.in_err-to.ensures)

pub returns-then-not-go_on : goal.returns-then-not-go_on
returns-then-not-go_on c =
    let a = c.args in
    let l = c.loop-to in
    let n = c.part-n in
    let to = c.in_ok-to.to in
    record {
      some = omega (arith, n.ensures.2 (omega (arith, l.invariant.0)));
      few = omega (arith, n.ensures.0, l.invariant.0);
      passed = passed-more a.top a.octets.now a.at.biased a.at.next l.k n.result l.to.biased l.to.next to.biased to.next
          l.invariant.1.passes c.in_ok-to.ensures;
    }

pub loop-to-preserved : goal.loop-to-preserved
loop-to-preserved c =
    let a = c.args in
    let l = c.loop-to in
    let n = c.part-n in
    let to = c.in_ok-to.to in
    let G = c.if-not-go_on.ensures refl in (
      G.0,
      passed-more a.top a.octets.now a.at.biased a.at.next l.k n.result l.to.biased l.to.next to.biased to.next
          l.invariant.1.passes c.in_ok-to.ensures,
      λ tail _. inr G.1,
    )
