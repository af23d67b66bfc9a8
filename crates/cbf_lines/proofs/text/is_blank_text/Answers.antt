use Rattle.cbf_lines.proofs.TextLaws.{blanks-test}
use Rattle.cbf_lines.proofs.text.is_blank_text.Goals as goal

pub returns : goal.returns
returns c = blanks-test c.args.text.now c.after_blanks.ensures
