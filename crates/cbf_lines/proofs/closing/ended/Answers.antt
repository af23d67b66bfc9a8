use Rattle.std.proofs.Common.{◌∙◌, arith}
use Rattle.cbf_lines.proofs.ClosingLaws.{ended-line}
use Rattle.cbf_lines.proofs.closing.ended.Goals as goal

pub returns : goal.returns
returns c = c.line_end.ensures ∙ ended-line c.args.file.now c.args.i (omega arith)
