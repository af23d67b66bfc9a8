-- Each goal is a law of the lines that were passed.
use Rattle.std.proofs.Common.{arith}
use Rattle.std.proofs.lemmas.Result.{err_from_is_err_and}
use Rattle.cbf_headers.proofs.HeadersLaws.{passed_none, passed-refused, passed-empty, passed-line, passed-all}
use Rattle.cbf_headers.proofs.headers.header_end.Goals as goal

pub loop-next-init : goal.loop-next-init
loop-next-init c = passed_none _ _ _ c.requires.0 c.requires.1

pub returns-in_err-l : goal.returns-in_err-l
returns-in_err-l c =
    let p = err_from_is_err_and c.from_residual.result c.from_residual.ensures.1 in
    rw (p.1, p.2) (passed-refused c.loop-next.invariant c.loop-next-test.true c.in_err-l.ensures)

pub returns-then-l-next : goal.returns-then-l-next
returns-then-l-next c = passed-empty c.loop-next.invariant c.loop-next-test.true c.in_ok-l.ensures c.if-l-next.true

pub loop-next-smaller : goal.loop-next-smaller
loop-next-smaller c =
    let p = passed-line c.loop-next.invariant c.loop-next-test.true c.in_ok-l.ensures c.if-l-next.false in
    omega (arith, p.1, p.0.high)

pub loop-next-preserved : goal.loop-next-preserved
loop-next-preserved c = (passed-line c.loop-next.invariant c.loop-next-test.true c.in_ok-l.ensures c.if-l-next.false).0

pub returns : goal.returns
returns c = passed-all c.loop-next.invariant c.loop-next-test.false
