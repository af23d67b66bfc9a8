use Rattle.cbf_lines.specs.Text.{plain_byte}
use Rattle.cbf_lines.proofs.TextLaws.{run-weaker, plain-textual}
use Rattle.cbf_lines.proofs.text.after_text.Goals as goal

pub loop-i-init : goal.loop-i-init
loop-i-init c = run-weaker (c.after_blocks-i.ensures.passed plain_byte (λ b r h e. e)) plain-textual
