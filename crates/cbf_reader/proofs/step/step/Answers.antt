-- The line that the step reads, and what the step says of it.
use Rattle.std.proofs.Common.{◌≡◌, ◌+◌, ◌-◌, ◌∙◌, sym, arith}
use Rattle.std.proofs.lemmas.Result.{err_from_is_err_and}
use Rattle.cbf_reader.proofs.StepLaws.{LineAt, line-there, step-refused, step-section, step-over-line}
use Rattle.cbf_reader.proofs.step.step.Goals as goal

pub returns-in_err-line : goal.returns-in_err-line
returns-in_err-line c st k =
    let a = c.args in
    let p = err_from_is_err_and c.from_residual.result c.from_residual.ensures.1 in
    rw (p.1, p.2)
    (step-refused a.limit a.file.now a.c c.requires st k c.in_err-line.field-0.0 (c.in_err-line.ensures st.field k.back k.field))

pub slice_bounds-is_boundary-end : goal.slice_bounds-is_boundary-end
slice_bounds-is_boundary-end c =
    let a = c.args in
    let l : LineAt a.file.now a.c c.in_ok-line.line = line-there a.limit a.file.now a.c c.requires c.in_ok-line.line c.in_ok-line.ensures in
    omega arith

pub section_step-requires : goal.section_step-requires
section_step-requires c =
    let a = c.args in
    let l : LineAt a.file.now a.c c.in_ok-line.line = line-there a.limit a.file.now a.c c.requires c.in_ok-line.line c.in_ok-line.ensures in
    (c.requires, omega arith, l.within)

pub returns-then-is_boundary : goal.returns-then-is_boundary
returns-then-is_boundary c st k =
    let a = c.args in
    step-section a.limit a.file.now a.c c.requires st k c.in_ok-line.line (c.in_ok-line.ensures st.field k.back k.field)
    (sym c.if-is_boundary.true ∙ c.is_boundary.ensures a.c.at st.field k.field) c.section_step.result (c.section_step.ensures st k)

pub returns : goal.returns
returns c st k =
    let a = c.args in
    let l : LineAt a.file.now a.c c.in_ok-line.line = line-there a.limit a.file.now a.c c.requires c.in_ok-line.line c.in_ok-line.ensures in
    let n = c.in_ok-line.line.next - a.c.at in
    let e : c.in_ok-line.line.next ≡ a.c.at + n = omega arith in
    let o = c.line_step.ensures st n e k in
    step-over-line a.limit a.file.now a.c c.requires st k c.in_ok-line.line (c.in_ok-line.ensures st.field k.back k.field)
    (sym c.if-is_boundary.false ∙ c.is_boundary.ensures a.c.at st.field k.field) c.line_step.result o.0 o.1 o.2 o.3
