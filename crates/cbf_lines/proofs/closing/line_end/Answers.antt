-- By the byte at the place, and the one after it.
use Rattle.std.proofs.Common.{arith, ap, ◌∙◌, ℕ}
use Rattle.std.specs.Prelude.{Option, Some}
use Rattle.cbf_lines.proofs.ClosingLaws.{line-end-there, line-end-past, at-10, at-13, at_other}
use Rattle.cbf_lines.proofs.closing.line_end.Goals as goal

pub returns-then-at-file : goal.returns-then-at-file
returns-then-at-file c = line-end-past c.args.file.now c.args.at (omega arith)

pub returns-in-10 : goal.returns-in-10
returns-in-10 c =
    let a = c.args in
    line-end-there a.at _ (at-10 a.file.now a.at (omega arith) c.in-10.is)

pub returns-in-13 : goal.returns-in-13
returns-in-13 c =
    let a = c.args in
    let some : ℕ → Option ℕ = Some in
    ap some c.after_return.ensures.0 ∙ line-end-there a.at _ (at-13 a.file.now a.at (omega arith) c.in-13.is)

pub returns-in_default : goal.returns-in_default
returns-in_default c =
    let a = c.args in
    at_other a.file.now a.at (omega arith) (λ e. omega arith) (λ e. omega arith)
