use Rattle.std.proofs.Common.{◌+◌, Bool, ap, sym, arith, leb-true}
use Rattle.cbf_measure.specs.Range.{raised_by}
use Rattle.cbf_measure.proofs.RangeLaws.{gathered-within, gathered-steps}
use Rattle.cbf_measure.proofs.range.words_within.Goals as goal

pub returns-then-signed : goal.returns-then-signed
returns-then-signed c = λ e.
    let a = c.args in
    let g = c.gather.ensures in
    let b = ap (λ (t : Bool). raised_by t a.limit) (sym c.if-signed.true) in
    let most = leb-true c.gather.result (a.limit + (a.limit + 1)) e in
    (gathered-within a.signed a.limit (a.limit + 1) g b c.requires.1 most, gathered-steps a.signed a.limit (a.limit + 1) g b c.requires.1 most)

pub returns-else-signed : goal.returns-else-signed
returns-else-signed c = λ e.
    let a = c.args in
    let r = c.gather-else-signed in
    let b = ap (λ (t : Bool). raised_by t a.limit) (sym c.if-signed.false) in
    let h = leb-true r.result a.limit e in
    (gathered-within a.signed a.limit 0 r.ensures b c.requires.1 (omega arith), gathered-steps a.signed a.limit 0 r.ensures b c.requires.1 (omega arith))
