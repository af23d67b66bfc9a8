-- The name of the data block: the line is too short, or it does not start with the word, or it does.
use Rattle.std.proofs.Common.{◌∙◌, sym, arith, rules}
use Rattle.cbf_reader.proofs.StepLaws.{block-short, block-other, block-named, not_blank}
use Rattle.cbf_reader.proofs.step.next_block.Goals as goal

pub returns-then-to-at-lt5 : goal.returns-then-to-at-lt5
returns-then-to-at-lt5 c =
    let a = c.args in
    block-short a.file.now a.at a.to (omega arith) (omega arith) a.block (omega arith) (omega arith) (omega arith)

pub returns-then-not-is_word_in_any_case : goal.returns-then-not-is_word_in_any_case
returns-then-not-is_word_in_any_case c =
    let a = c.args in
    block-other a.file.now a.at a.to (omega arith) (omega arith) a.block (omega arith)
    (sym (c.if-not-is_word_in_any_case.true) ∙ c.is_word_in_any_case.ensures) (omega arith) (omega arith)

pub returns : goal.returns
returns c =
    let a = c.args in
    block-named a.file.now a.at a.to (omega arith) (omega arith) a.block (omega arith)
    (sym (c.if-not-is_word_in_any_case.false) ∙ c.is_word_in_any_case.ensures) c.after.result
    (c.after.ensures.run not_blank (λ b r h p. search rules))
