-- By the byte at the place, and by where the blanks after it end.
use Rattle.std.proofs.Common.{◌∙◌, arith}
use Rattle.cbf_lines.proofs.ClosingLaws.{semicolon-past, no-semicolon, semicolon-too-long, semicolon-ended}
use Rattle.cbf_lines.proofs.closing.semicolon_line.Goals.{then-file-at-via-then-file-at, then-file-at-via-else-file-at+then-file-at-ne59}
use Rattle.cbf_lines.proofs.closing.semicolon_line.Goals as goal

pub returns-then-file-at : goal.returns-then-file-at
returns-then-file-at c =
    let a = c.args in
    elim c.then-file-at.branch [
      | then-file-at-via-then-file-at w ↦ semicolon-past a.file.now a.limit a.at (omega arith)
      | then-file-at-via-else-file-at+then-file-at-ne59 w ↦
          no-semicolon a.file.now a.limit a.at (omega arith) w.if-file-at-ne59.true
    ]

pub returns-then-limit-to : goal.returns-then-limit-to
returns-then-limit-to c =
    let a = c.args in
    semicolon-too-long a.file.now a.limit a.at (omega arith) c.if-file-at-ne59.false c.after_blanks-to.ensures c.if-limit-to.true

pub returns : goal.returns
returns c =
    let a = c.args in
    c.ended.ensures
    ∙ semicolon-ended a.file.now a.limit a.at (omega arith) c.if-file-at-ne59.false c.after_blanks-to.ensures (omega arith)
