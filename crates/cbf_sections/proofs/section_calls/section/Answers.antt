-- The fields are those of the section that the reader gives.
use Rattle.cbf_sections.proofs.SectionCallsLaws.{section-fields}
use Rattle.cbf_format.specs.Files as F
use Rattle.cbf_sections.proofs.section_calls.section.Goals as goal

pub returns-clause-answer : goal.returns-clause-answer
returns-clause-answer c =
    let a = c.args in
    section-fields a.file.now a.number (F.read a.limit a.file.now) c.numbered_section.result c.numbered_section.ensures
