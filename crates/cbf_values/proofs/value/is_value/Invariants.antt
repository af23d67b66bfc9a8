-- The answer is that of the word's bytes that are left, on the rest of the value.
use Rattle.std.proofs.Common.{◌≡◌, drop}
use Rattle.cbf_format.specs.Text.{lowers, same}
use Rattle.cbf_values.specs.Value.{joined}
use Rattle.cbf_values.proofs.value.is_value.Given as goal

abbrev pub invariant-loop-b : goal.invariant-loop-b
invariant-loop-b l = same (drop l.b-index l.word) (lowers (joined l.rest)) ≡ same l.word (lowers (joined l.text))
