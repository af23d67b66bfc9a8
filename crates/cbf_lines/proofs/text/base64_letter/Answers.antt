use Rattle.std.proofs.Common.{arith}
use Rattle.cbf_lines.proofs.TextLaws.{letter-ranges}
use Rattle.cbf_lines.proofs.text.base64_letter.Goals as goal

pub returns : goal.returns
returns c = letter-ranges c.args.b (omega arith)
