use Rattle.std.proofs.Common.{rules, false}
use Rattle.cbf_format.specs.Values.{parts}
use Rattle.cbf_values.specs.Value.{joined}
use Rattle.cbf_values.proofs.KnownValueLaws.{content_type_range}
use Rattle.cbf_values.proofs.known_value.known_value.Goals as goal

pub returns-in-ContentType : goal.returns-in-ContentType
returns-in-ContentType c =
    (search rules, rw c.content_type.ensures (content_type_range (parts false (joined c.trimmed-text.result.now))))
