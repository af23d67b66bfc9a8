-- By the byte where the scan over text bytes ends.
use Rattle.std.proofs.Common.{arith, ap, sym, ◌∙◌, ◌+◌, drop}
use Rattle.std.specs.Prelude.{Result, Err}
use Rattle.cbf_walk.specs.Parsers.{hd}
use Rattle.cbf_format.specs.Lines.{end_length}
use Rattle.cbf_answers.specs.declared.Refusal.{Refusal}
use Rattle.cbf_lines.specs.declared.line.Line.{Line}
use Rattle.cbf_lines.proofs.LineLaws.{scan, line-end, line-10, line-13, run-line, run-2, run-3}
use Rattle.cbf_lines.proofs.line.text_line.Goals as goal

pub returns-then-i-file : goal.returns-then-i-file
returns-then-i-file c =
    let a = c.args in
    let i = c.after_text-i.result in
    run-line a.limit a.file.now (scan a.limit a.file.now a.at c.farthest.result i c.farthest.ensures c.requires c.after_text-i.ensures)
    0 i (omega arith) (line-end a.file.now i (omega arith))

pub returns-in-10 : goal.returns-in-10
returns-in-10 c =
    let a = c.args in
    let i = c.after_text-i.result in
    let s = scan a.limit a.file.now a.at c.farthest.result i c.farthest.ensures c.requires c.after_text-i.ensures in
    run-line a.limit a.file.now s 1 (i + 1) (omega arith) (line-10 a.file.now i (omega arith) c.in-10.is)

pub returns-in-13 : goal.returns-in-13
returns-in-13 c =
    let a = c.args in
    let i = c.after_text-i.result in
    let s = scan a.limit a.file.now a.at c.farthest.result i c.farthest.ensures c.requires c.after_text-i.ensures in
    run-line a.limit a.file.now s (end_length (hd (drop (i + 1) a.file.now))) c.after_return.result c.after_return.ensures.0
    (line-13 a.file.now i (omega arith) c.in-13.is)

pub returns-in_default : goal.returns-in_default
returns-in_default c =
    let a = c.args in
    let i = c.after_text-i.result in
    let s = scan a.limit a.file.now a.at c.farthest.result i c.farthest.ensures c.requires c.after_text-i.ensures in
    let err : Refusal → Result Line Refusal = Err in
    ap err c.at.ensures
    ∙ run-2 a.limit a.file.now s (omega arith) (λ e. omega arith) (λ e. omega arith)
    (sym c.textual.ensures ∙ c.if-textual.true)

pub returns-in_default-2 : goal.returns-in_default-2
returns-in_default-2 c =
    let a = c.args in
    let i = c.after_text-i.result in
    let s = scan a.limit a.file.now a.at c.farthest.result i c.farthest.ensures c.requires c.after_text-i.ensures in
    let err : Refusal → Result Line Refusal = Err in
    ap err c.at-in_default-2.ensures
    ∙ run-3 a.limit a.file.now s (omega arith) (λ e. omega arith) (λ e. omega arith)
    (sym c.textual.ensures ∙ c.if-textual.false)
