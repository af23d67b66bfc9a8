use Rattle.std.proofs.Common.{ap, sym, ◌∙◌, subst, arith}
use Rattle.std.specs.Prelude.{Result, Ok}
use Rattle.cbf_answers.specs.declared.Refusal.{Refusal}
use Rattle.cbf_base64.specs.declared.base64_text.Base64Line.{Base64Line}
use Rattle.std.proofs.lemmas.Result.{err_from_is_err_and}
use Rattle.cbf_base64.specs.Base64Text.{FewOfLine}
use Rattle.cbf_base64.proofs.Base64TextLaws.{passed_none, passed-refused, passed-closing, passed-text, passed-all}
use Rattle.cbf_base64.proofs.base64_text.base64_text.Goals as goal

pub loop-closing-init : goal.loop-closing-init
loop-closing-init c =
    passed_none c.args.file.now c.args.at c.args.limit c.none-groups.result c.none-groups.ensures c.requires.0 c.requires.1

pub returns-in_err-next : goal.returns-in_err-next
returns-in_err-next c =
    let l = c.loop-closing in
    let a = c.args in
    let p = err_from_is_err_and c.from_residual.result c.from_residual.ensures.1 in
    rw (p.1, p.2) (
      passed-refused a.file.now a.at a.limit l.closing l.groups l.invariant (omega arith) c.in_err-next.field-0.0
          c.in_err-next.ensures.0,
      omega arith,
    )

pub returns-in-Closing : goal.returns-in-Closing
returns-in-Closing c =
    let l = c.loop-closing in
    let a = c.args in
    let ok : Base64Line → Result Base64Line Refusal = Ok in (
      passed-closing a.file.now a.at a.limit l.closing l.groups l.invariant (omega arith) c.in-Closing.next
          (ap ok (sym c.in-Closing.is) ∙ c.in_ok-next.ensures.0),
      omega (arith, l.invariant.few, l.invariant.high, c.requires.1),
    )

pub loop-closing-smaller : goal.loop-closing-smaller
loop-closing-smaller c =
    let l = c.loop-closing in
    let a = c.args in
    let ok : Base64Line → Result Base64Line Refusal = Ok in
    let p = passed-text a.file.now a.at a.limit l.closing l.groups l.invariant (omega arith) c.in-Text.more c.in-Text.next
    (ap ok (sym c.in-Text.is) ∙ c.in_ok-next.ensures.0) (subst FewOfLine (ap ok c.in-Text.is) c.in_ok-next.ensures.1) in
    omega (arith, p.1, p.0.high)

pub loop-closing-preserved : goal.loop-closing-preserved
loop-closing-preserved c =
    let l = c.loop-closing in
    let a = c.args in
    let ok : Base64Line → Result Base64Line Refusal = Ok in
    let p = passed-text a.file.now a.at a.limit l.closing l.groups l.invariant (omega arith) c.in-Text.more c.in-Text.next
    (ap ok (sym c.in-Text.is) ∙ c.in_ok-next.ensures.0) (subst FewOfLine (ap ok c.in-Text.is) c.in_ok-next.ensures.1) in
    p.0

pub returns : goal.returns
returns c =
    let l = c.loop-closing in
    let a = c.args in
    (passed-all a.file.now a.at a.limit l.closing l.groups l.invariant (omega arith), omega arith)
