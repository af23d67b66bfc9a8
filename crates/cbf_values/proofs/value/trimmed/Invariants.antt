-- What is left of the value is a part of it and has the same text between its blanks, and after the first loop no blank
-- in front.
use Rattle.std.proofs.Common.{◌≡◌, ◌<◌, false, length, get_or}
use Rattle.cbf_format.specs.Text.{trim}
use Rattle.cbf_values.specs.Value.{joined, blank_or_end, PartOf}
use Rattle.cbf_values.proofs.value.trimmed.Given as goal

abbrev pub invariant-loop-rest : goal.invariant-loop-rest
invariant-loop-rest l = (trim (joined l.rest) ≡ trim (joined l.text)) × PartOf l.text l.rest

abbrev pub decreases-loop-rest : goal.decreases-loop-rest
decreases-loop-rest l = length l.rest

abbrev pub invariant-loop-rest-2 : goal.invariant-loop-rest-2
invariant-loop-rest-2 l =
    (trim (joined l.rest) ≡ trim (joined l.text))
    × (0 < length l.rest → blank_or_end (get_or l.rest 0 0) ≡ false)
    × PartOf l.text l.rest

abbrev pub decreases-loop-rest-2 : goal.decreases-loop-rest-2
decreases-loop-rest-2 l = length l.rest
