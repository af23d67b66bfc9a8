use Rattle.cbf_format.specs.Text.{blank}
use Rattle.cbf_lines.proofs.text.after_blanks.Goals as goal

pub returns : goal.returns
returns c = c.after.ensures.run blank (λ b r h e. e)
