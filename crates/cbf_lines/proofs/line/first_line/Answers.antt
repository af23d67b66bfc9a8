use Rattle.std.proofs.Common.{ap, ◌∙◌}
use Rattle.std.specs.Prelude.{Result, Err}
use Rattle.cbf_answers.specs.declared.Refusal.{Refusal}
use Rattle.cbf_lines.specs.declared.line.Line.{Line}
use Rattle.cbf_lines.specs.Line.{line_at}
use Rattle.cbf_lines.proofs.FirstLineLaws.{first-refused, first-text}
use Rattle.cbf_lines.proofs.line.first_line.Goals as goal

pub returns-then-not-identified : goal.returns-then-not-identified
returns-then-not-identified c =
    let a = c.args in
    let err : Refusal → Result Line Refusal = Err in
    ap err c.at.ensures
    ∙ first-refused a.limit a.file.now c.identified.result c.identified.ensures c.if-not-identified.true

pub returns : goal.returns
returns c =
    let a = c.args in
    c.text_line.ensures
    ∙ ap (line_at 0) (first-text a.limit a.file.now c.identified.result c.identified.ensures c.if-not-identified.false)
