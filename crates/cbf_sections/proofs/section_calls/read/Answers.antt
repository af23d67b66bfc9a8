-- What is answered for each count.
use Rattle.std.proofs.Common.{ap, ◌∙◌}
use Rattle.cbf_answers.specs.Answers.{outcome}
use Rattle.cbf_sections.proofs.SectionCallsLaws.{count_outcome}
use Rattle.cbf_format.specs.Files as F
use Rattle.cbf_sections.proofs.section_calls.read.Goals as goal

pub returns : goal.returns
returns c =
    let a = c.args in
    record { answer = ap outcome c.count_sections.ensures ∙ count_outcome (F.read a.limit a.file.now) }
