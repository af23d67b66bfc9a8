-- By the first byte, and by where the name ends.
use Rattle.std.proofs.Common.{arith, sym, ◌∙◌, ◌<◌, length}
use Rattle.std.proofs.lemmas.Bool.Decides.{nat_tests}
use Rattle.cbf_lines.proofs.LineLaws.{malformed-no-name, malformed-no-colon, malformed-at}
use Rattle.cbf_lines.proofs.line.malformed.Goals.{then-i-eq0-via-then-i-eq0, then-i-eq0-via-else-i-eq0+then-i-text}
use Rattle.cbf_lines.proofs.line.malformed.Goals as goal

pub returns-then-i-eq0 : goal.returns-then-i-eq0
returns-then-i-eq0 c =
    let a = c.args in
    let some_byte : 0 < length a.text.now = grind (arith, nat_tests) in
    let plain = sym c.blank.ensures ∙ c.if-blank.false in
    elim c.then-i-eq0.branch [
      | then-i-eq0-via-then-i-eq0 w ↦
          malformed-no-name a.text.now a.first some_byte plain c.after_name-i.ensures w.if-i-eq0.true
      | then-i-eq0-via-else-i-eq0+then-i-text w ↦
          malformed-no-colon a.text.now a.first some_byte plain c.after_name-i.ensures w.if-i-eq0.false w.if-i-text.true
    ]

pub returns : goal.returns
returns c =
    let a = c.args in
    let some_byte : 0 < length a.text.now = grind (arith, nat_tests) in
    let high = c.after_name-i.ensures.high in
    malformed-at a.text.now a.first some_byte (sym c.blank.ensures ∙ c.if-blank.false) c.after_name-i.ensures
    c.if-i-eq0.false (omega arith)
