use Rattle.std.proofs.Common.{sym, ◌∙◌, arith}
use Rattle.cbf_format.specs.Text.{lowers}
use Rattle.cbf_lines.proofs.TextLaws.{length-lowers, get_or-lowers, same-lengths, compared-next, compared-not, compared-end}
use Rattle.cbf_lines.proofs.text.is_word_in_any_case.Goals.{then-lower-word, else-lower-word}
use Rattle.cbf_lines.proofs.text.is_word_in_any_case.Goals as goal

pub returns-then-text-word : goal.returns-then-text-word
returns-then-text-word c =
    let n = length-lowers c.args.text.now in
    sym (same-lengths c.args.word.now (lowers c.args.text.now) (λ e. c.if-text-word.true (sym n ∙ sym e)))

pub loop-i-preserved : goal.loop-i-preserved
loop-i-preserved c =
    let word = c.args.word.now in
    let text = c.args.text.now in
    let i = c.loop-i.i in
    let n = length-lowers text in
    let q = get_or-lowers text i in
    let e = c.lower.ensures in
    elim c.if-lower-word.branch [
      | then-lower-word w ↦ rw w.differs-is (compared-not c.loop-i.differs word (lowers text) i c.loop-i.invariant
          (omega arith) (omega arith) (λ p. w.if-lower-word.true (e ∙ sym (p ∙ q))))
      | else-lower-word w ↦ rw w.differs-is (compared-next c.loop-i.differs word (lowers text) i c.loop-i.invariant
          (omega arith) (omega arith) (sym (q ∙ sym e ∙ w.if-lower-word.false)))
    ]

pub returns : goal.returns
returns c =
    let n = length-lowers c.args.text.now in
    sym (compared-end c.loop-i.differs c.args.word.now (lowers c.args.text.now) c.loop-i.i c.loop-i.invariant
    (omega arith) (omega arith))
