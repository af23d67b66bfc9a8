-- The boundary, and after it the line's end.
use Rattle.std.proofs.Common.{refl, sym, ◌∙◌, ◌+◌, arith}
use Rattle.cbf_base64.proofs.Base64TextLaws.{closing-short, closing-other, closing-ended}
use Rattle.cbf_base64.proofs.base64_text.closing_line.Goals as goal

pub returns-then-file-at-lt-CLOSING_LENGTH : goal.returns-then-file-at-lt-CLOSING_LENGTH
returns-then-file-at-lt-CLOSING_LENGTH c = closing-short c.args.file.now c.args.at c.requires c.if-file-at-lt-CLOSING_LENGTH.true

pub returns-then-not-is_word : goal.returns-then-not-is_word
returns-then-not-is_word c =
    closing-other c.args.file.now c.args.at c.requires (c.args.at + 31) refl (sym c.is_word.ensures ∙ c.if-not-is_word.true)

pub returns : goal.returns
returns c =
    closing-ended c.args.file.now c.args.at c.requires (c.args.at + 31) refl (omega arith)
    (sym c.is_word.ensures ∙ c.if-not-is_word.false) c.ended.result c.ended.ensures
