use Rattle.std.proofs.Common.{arith, ap, sym, ◌∙◌}
use Rattle.std.specs.Prelude.{Result, Err}
use Rattle.std.proofs.lemmas.Result.{err_from_is_err_and}
use Rattle.cbf_answers.specs.declared.Refusal.{Refusal}
use Rattle.cbf_lines.specs.declared.line.Line.{Line}
use Rattle.cbf_lines.proofs.LineLaws.{text-passed, header_refused, header-malformed, header-text}
use Rattle.cbf_lines.proofs.line.header_line.Goals as goal

pub returns-in_err-to : goal.returns-in_err-to
returns-in_err-to c =
    let a = c.args in
    let p = err_from_is_err_and c.from_residual.result c.from_residual.ensures.1 in
    rw (p.1, p.2) (header_refused a.limit a.file.now a.at c.requires a.first c.in_err-to.field-0.0 c.in_err-to.ensures)

pub slice_bounds-malformed-end : goal.slice_bounds-malformed-end
slice_bounds-malformed-end c =
    let a = c.args in
    let l = text-passed a.limit a.file.now a.at c.requires c.in_ok-to.field-0 c.in_ok-to.ensures in
    omega (arith, l.low, l.high, l.within)

pub returns-then-malformed : goal.returns-then-malformed
returns-then-malformed c =
    let a = c.args in
    let l = text-passed a.limit a.file.now a.at c.requires c.in_ok-to.field-0 c.in_ok-to.ensures in
    let err : Refusal → Result Line Refusal = Err in
    ap err c.at.ensures
    ∙ header-malformed a.limit a.file.now a.at c.requires a.first l (sym c.malformed.ensures ∙ c.if-malformed.true)

pub returns : goal.returns
returns c =
    let a = c.args in
    let l = text-passed a.limit a.file.now a.at c.requires c.in_ok-to.field-0 c.in_ok-to.ensures in
    header-text a.limit a.file.now a.at c.requires a.first l (sym c.malformed.ensures ∙ c.if-malformed.false)
