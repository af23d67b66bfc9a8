-- Each turn judges one more header. What the test for a repeated header says is left to tactics: a changed test is
-- refused for what it says.
use Rattle.std.proofs.Common.{rules, arith, ◌≡◌, sym, ◌∙◌, None, Some, true, false}
use Rattle.std.specs.Prelude.{is_some}
use Rattle.std.proofs.lemmas.Result.{err_from_is_err_and}
use Rattle.cbf_headers.specs.Found.{field_of}
use Rattle.cbf_headers.proofs.JudgeLaws.{judging-none, judging-all, judging-other, judging-repeated, judging-bad}
use Rattle.cbf_headers.proofs.JudgeLaws.{judging-number}
use Rattle.cbf_headers.proofs.judge.judge_headers.Goals as goal

pub loop-at-init : goal.loop-at-init
loop-at-init c = judging-none _ _ _ c.nothing-values.ensures

pub header_parts-header-requires : goal.header_parts-header-requires
header_parts-header-requires c = ((c.loop-at.invariant.left c.requires).on, c.loop-at-test.true)

pub returns-then-is_some-clause-judged : goal.returns-then-is_some-clause-judged
returns-then-is_some-clause-judged c =
    let z : is_some (field_of c.in-Some.known c.loop-at.values) ≡ true = grind arith in
    judging-repeated c.loop-at.invariant c.header_parts-header.ensures c.in-Some.ensures z

pub returns-in_err-value-clause-judged : goal.returns-in_err-value-clause-judged
returns-in_err-value-clause-judged c =
    let p = err_from_is_err_and c.from_residual.result c.from_residual.ensures.1 in
    let z : is_some (field_of c.in-Some.known c.loop-at.values) ≡ false = search (rules, ← c.get.ensures) in
    let v : c.known_value.result ≡ None = search rules in
    let a : c.in_err-value.field-0.0 ≡ c.loop-at.at = search rules in
    rw (p.1, p.2, a)
    (judging-bad c.loop-at.invariant c.header_parts-header.ensures c.in-Some.ensures z
    (sym v ∙ c.known_value.ensures.0))

pub loop-at-smaller-in_ok-value : goal.loop-at-smaller-in_ok-value
loop-at-smaller-in_ok-value c =
    let m = (c.header_parts-header.ensures (c.loop-at.invariant.left c.requires).on).moves in
    omega arith

pub loop-at-preserved-in_ok-value : goal.loop-at-preserved-in_ok-value
loop-at-preserved-in_ok-value c =
    let i = c.loop-at.invariant in
    let z : is_some (field_of c.in-Some.known c.loop-at.values) ≡ false = search (rules, ← c.get.ensures) in
    let v : c.known_value.result ≡ Some c.in_ok-value.value = search rules in
    judging-number i c.header_parts-header.ensures c.in-Some.ensures z
    (sym v ∙ c.known_value.ensures.0) (rw v at c.known_value.ensures.1) (c.with-values.ensures i.fs i.holds)

pub loop-at-smaller : goal.loop-at-smaller
loop-at-smaller c =
    let m = (c.header_parts-header.ensures (c.loop-at.invariant.left c.requires).on).moves in
    omega arith

pub loop-at-preserved : goal.loop-at-preserved
loop-at-preserved c = judging-other c.loop-at.invariant c.header_parts-header.ensures c.in_default.ensures

pub returns-clause-judged : goal.returns-clause-judged
returns-clause-judged c = judging-all c.loop-at.invariant c.loop-at-test.false
