use Rattle.std.proofs.Common.{◌+◌, Bool, ap, sym, arith, leb-true}
use Rattle.cbf_measure.specs.Range.{raised_by}
use Rattle.cbf_measure.proofs.RangeLaws.{spread-within}
use Rattle.cbf_measure.proofs.range.each_within.Goals as goal

pub returns-then-signed : goal.returns-then-signed
returns-then-signed c = λ e.
    let a = c.args in
    spread-within a.signed a.limit (a.limit + 1) c.spread.result a.pixels.now c.requires
    (ap (λ (b : Bool). raised_by b a.limit) (sym c.if-signed.true)) (leb-true c.spread.result (a.limit + (a.limit + 1)) e) c.spread.ensures

pub returns-else-signed : goal.returns-else-signed
returns-else-signed c = λ e.
    let a = c.args in
    let r = c.spread-else-signed in
    let m = leb-true r.result a.limit e in
    spread-within a.signed a.limit 0 r.result a.pixels.now c.requires
    (ap (λ (b : Bool). raised_by b a.limit) (sym c.if-signed.false)) (omega arith) r.ensures
