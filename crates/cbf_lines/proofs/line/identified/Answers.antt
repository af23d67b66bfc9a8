-- The word, the blanks and the version, byte by byte.
use Rattle.std.proofs.Common.{arith, ap, sym, ◌∙◌}
use Rattle.std.proofs.lemmas.List.{take_rest}
use Rattle.cbf_format.specs.Files.{versioned}
use Rattle.cbf_lines.proofs.FirstLineLaws.{identified-line, too_short, other_word, no-blank, by-version}
use Rattle.cbf_lines.proofs.line.identified.Goals.{then-file-lt16-via-then-file-lt16}
use Rattle.cbf_lines.proofs.line.identified.Goals.{then-file-lt16-via-else-file-lt16+then-not-is_word}
use Rattle.cbf_lines.proofs.line.identified.Goals.{then-file-lt16-via-else-file-lt16+else-not-is_word+then-not-blank}
use Rattle.cbf_lines.proofs.line.identified.Goals as goal

pub returns-then-file-lt16 : goal.returns-then-file-lt16
returns-then-file-lt16 c = λ t n l.
    let file = c.args.file.now in
    sym (identified-line file t n l ∙ elim c.then-file-lt16.branch [
      | then-file-lt16-via-then-file-lt16 w ↦ too_short file (omega arith)
      | then-file-lt16-via-else-file-lt16+then-not-is_word w ↦
          other_word file (sym w.is_word.ensures ∙ w.if-not-is_word.true)
      | then-file-lt16-via-else-file-lt16+else-not-is_word+then-not-blank w ↦
          no-blank file (omega arith) (sym w.blank.ensures ∙ w.if-not-blank.true)
    ])

pub returns : goal.returns
returns c = λ t n l.
    let file = c.args.file.now in
    c.versioned.ensures
    ∙ ap versioned (take_rest file c.after_blanks.result)
    ∙ sym (identified-line file t n l
    ∙ by-version file (omega arith) (sym c.is_word.ensures ∙ c.if-not-is_word.false)
    (sym c.blank.ensures ∙ c.if-not-blank.false) c.after_blanks.ensures)
