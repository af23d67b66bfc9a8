use Rattle.std.proofs.Common.{refl, arith}
use Rattle.cbf_sums.specs.Passes.{Between}
use Rattle.cbf_sums.proofs.PassesLaws.{failed-stop, top_small, passes_none, passes-passes, step_in, step-out, step-run-out}
use Rattle.cbf_validate.proofs.ValidateLaws.{took-small, took-sum, held_small}
use Rattle.cbf_validate.proofs.validate.pass_each.Goals as goal

pub loop-j-init : goal.loop-j-init
loop-j-init c =
    let a = c.args in (
      record { between = c.requires.1; passes = passes_none a.top a.octets.now a.at.biased a.at.next; inside = c.requires.2 },
      omega arith,
    )

pub returns-then-not-whole : goal.returns-then-not-whole
returns-then-not-whole c =
    let a = c.args in
    let l = c.loop-j in
    failed-stop a.top a.octets.now a.at.biased a.at.next a.n l._j l.to.biased l.to.next l.invariant.0.passes l.invariant.1
    (step-run-out a.top a.octets.now l.to.biased l.to.next (c.if-not-whole.ensures.1 refl)) c.loop-j-test.true c.requires.3

pub sum-biased-requires : goal.sum-biased-requires
sum-biased-requires c =
    let b = c.loop-j.invariant.0.between in
    let small = top_small c.args.top c.requires.0 in
    (omega (arith, b.0), omega (arith, b.1), held_small c.read_difference-d.result.value (took-small c.read_difference-d.ensures))

pub returns-then-biased-lt-BIASED_LEAST : goal.returns-then-biased-lt-BIASED_LEAST
returns-then-biased-lt-BIASED_LEAST c =
    let a = c.args in
    let l = c.loop-j in
    let d = c.read_difference-d in
    failed-stop a.top a.octets.now a.at.biased a.at.next a.n l._j l.to.biased l.to.next l.invariant.0.passes l.invariant.1
    (λ tail _. step-out d.ensures l.invariant.0.between (took-sum l.to.biased c.sum-biased.result d.ensures c.sum-biased.ensures)
    (λ r. omega (arith, r.0, r.1, c.then-biased-lt-BIASED_LEAST.either)) tail)
    c.loop-j-test.true c.requires.3

pub loop-j-preserved : goal.loop-j-preserved
loop-j-preserved c =
    let a = c.args in
    let l = c.loop-j in
    let d = c.read_difference-d in
    let s = c.sum-biased in
    let b : Between a.top s.result = (omega arith, omega arith) in
    let one = step_in d.ensures l.invariant.0.between (took-sum l.to.biased s.result d.ensures s.ensures) b in (
      record {
        between = b;
        passes = passes-passes a.top a.octets.now a.at.biased a.at.next l._j 1 l.to.biased l.to.next s.result d.result.next l.invariant.0.passes one;
        inside = d.ensures.inside;
      },
      omega (arith, d.ensures.reach, l.invariant.1),
    )
