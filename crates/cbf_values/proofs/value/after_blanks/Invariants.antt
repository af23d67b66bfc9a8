use Rattle.std.proofs.Common.{◌≡◌, length}
use Rattle.cbf_format.specs.Text.{skip}
use Rattle.cbf_values.specs.Value.{RestOf}
use Rattle.cbf_values.proofs.value.after_blanks.Given as goal

abbrev pub invariant-loop-text : goal.invariant-loop-text
invariant-loop-text l = (skip l.text ≡ skip l.fn.text) × RestOf l.fn.text 0 l.text

abbrev pub decreases-loop-text : goal.decreases-loop-text
decreases-loop-text l = length l.text
