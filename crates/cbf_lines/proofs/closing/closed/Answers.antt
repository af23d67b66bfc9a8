-- The line end, the boundary, and what follows the span.
use Rattle.std.proofs.Common.{refl, sym, ◌∙◌, arith}
use Rattle.cbf_lines.proofs.ClosingLaws.{line-end-inside, closed-no-end, closed-short, closed-other, closed-span}
use Rattle.cbf_lines.proofs.closing.closed.Goals as goal

pub returns-in_err-i : goal.returns-in_err-i
returns-in_err-i c =
    let a = c.args in
    c.from_residual.ensures ∙ closed-no-end a.file.now a.limit a.at c.in_err-i.ensures

pub overflow_sub-file : goal.overflow_sub-file
overflow_sub-file c = line-end-inside c.args.file.now c.args.at c.requires c.in_ok-i.ensures

pub returns-then-file-i-lt-CLOSING_LENGTH : goal.returns-then-file-i-lt-CLOSING_LENGTH
returns-then-file-i-lt-CLOSING_LENGTH c =
    let a = c.args in
    closed-short a.file.now a.limit a.at c.in_ok-i.ensures c.if-file-i-lt-CLOSING_LENGTH.true

pub returns-then-not-is_word : goal.returns-then-not-is_word
returns-then-not-is_word c =
    let a = c.args in
    closed-other a.file.now a.limit a.at c.in_ok-i.ensures refl (omega arith)
    (sym c.is_word.ensures ∙ c.if-not-is_word.true)

pub returns-in_err-next : goal.returns-in_err-next
returns-in_err-next c =
    let a = c.args in
    c.from_residual-in_err-next.ensures
    ∙ closed-span a.file.now a.limit a.at c.in_ok-i.ensures refl (omega arith)
    (sym c.is_word.ensures ∙ c.if-not-is_word.false) _ c.in_err-next.ensures

pub returns : goal.returns
returns c =
    let a = c.args in
    closed-span a.file.now a.limit a.at c.in_ok-i.ensures refl (omega arith)
    (sym c.is_word.ensures ∙ c.if-not-is_word.false) _ c.in_ok-next.ensures
