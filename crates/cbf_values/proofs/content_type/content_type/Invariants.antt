-- What the parts say is what is found, then what the parts that follow say.
use Rattle.std.proofs.Common.{◌≡◌, ◌+◌, ℕ, false, List, length, Option, None, Some, Bor}
use Rattle.cbf_format.specs.Values.{content_type, parts}
use Rattle.cbf_values.specs.Value.{joined}
use Rattle.cbf_values.specs.ContentType.{following}
use Rattle.cbf_values.proofs.ContentTypeLaws.{said_by}
use Rattle.cbf_values.proofs.content_type.content_type.Given as goal

abbrev size : Option (Bor (List ℕ)) → ℕ
size None = 0
size (Some rest) = length rest.now + 1

abbrev pub invariant-loop-rest : goal.invariant-loop-rest
invariant-loop-rest l = said_by l.found (following l.rest) ≡ content_type (parts false (joined l.text))

abbrev pub decreases-loop-rest : goal.decreases-loop-rest
decreases-loop-rest l = size l.rest
