-- The octets at their place are a part of the file.
use Rattle.std.proofs.Common.{arith}
use Rattle.cbf_sections.proofs.SectionCallsLaws.{part-taken, part_there}
use Rattle.cbf_sections.proofs.section_calls.octets.Goals as goal

pub overflow_add-result : goal.overflow_add-result
overflow_add-result c =
    let a = c.args in
    let p = part_there a.limit a.number a.file.now c.in-Ok.ensures.answer in
    omega (arith, p.high)

pub slice_bounds-result-end : goal.slice_bounds-result-end
slice_bounds-result-end c =
    let a = c.args in
    let p = part_there a.limit a.number a.file.now c.in-Ok.ensures.answer in
    omega (arith, p.high)

pub returns-in-Ok : goal.returns-in-Ok
returns-in-Ok c =
    let a = c.args in
    record { part = part-taken (part_there a.limit a.number a.file.now c.in-Ok.ensures.answer) }
