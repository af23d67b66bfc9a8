-- The closing boundary's line, or a run of symbols and what follows it.
use Rattle.std.proofs.Common.{ap, ◌∙◌, length, arith}
use Rattle.std.specs.Prelude.{Result, Err}
use Rattle.cbf_answers.specs.declared.Refusal.{Refusal}
use Rattle.cbf_base64.specs.declared.base64_text.Base64Line.{Base64Line}
use Rattle.cbf_lines.proofs.LineLaws.{far}
use Rattle.cbf_lines.proofs.ClosingLaws.{ended_at_lem}
use Rattle.cbf_base64.proofs.Base64TextLaws.{line-symbols, line_refused}
use Rattle.cbf_base64.proofs.base64_text.base64_line.Goals as goal

pub returns-in_default-ended : goal.returns-in_default-ended
returns-in_default-ended c =
    let a = c.args in
    let file = a.file.now in
    let f = far a.at a.limit (length file) c.farthest.result c.farthest.ensures c.requires.0 in
    let t = c.text_symbols-to in
    let err : Refusal → Result Base64Line Refusal = Err in (
      ap err c.at.ensures ∙ line_refused file a.at a.limit a.g f t.ensures.run c.in_default.ensures c.in_default-ended.ensures _
          c.refused_for.ensures,
      omega arith,
    )

pub returns : goal.returns
returns c =
    let a = c.args in
    let file = a.file.now in
    let f = far a.at a.limit (length file) c.farthest.result c.farthest.ensures c.requires.0 in
    let t = c.text_symbols-to in
    let e = c.in-Some-ended.ensures in
    let v = ended_at_lem file t.result.to (omega (arith, f.high, t.ensures.run.high)) e in (
      line-symbols file a.at a.limit a.g f t.ensures.run c.in_default.ensures t.result.groups c.in-Some-ended.next
          t.ensures.added e,
      omega (arith, v.place, t.ensures.most),
    )
