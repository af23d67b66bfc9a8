-- The whole gives what the lines from the one at hand on give after the symbols so far.
use Rattle.std.proofs.Common.{◌-◌, length}
use Rattle.cbf_base64.proofs.Base64TextLaws.{Passed}
use Rattle.cbf_base64.proofs.base64_text.base64_text.Given as goal

abbrev pub invariant-loop-closing : goal.invariant-loop-closing
invariant-loop-closing l = Passed l.file l.fn.at l.limit l.closing l.groups

abbrev pub decreases-loop-closing : goal.decreases-loop-closing
decreases-loop-closing l = length l.file - l.closing
