-- The bytes passed begin a part, and whether a quote is open after them.
use Rattle.std.proofs.Common.{take}
use Rattle.cbf_values.specs.Value.{joined}
use Rattle.cbf_values.proofs.ContentTypeLaws.{Begun}
use Rattle.cbf_values.proofs.content_type.first_part.Given as goal

abbrev pub invariant-loop-i : goal.invariant-loop-i
invariant-loop-i l = Begun l.quoted (joined (take l.i l.text))
