-- What is answered for the section that the reader gives, or for its refusal.
use Rattle.std.proofs.Common.{ap, ◌∙◌}
use Rattle.std.proofs.lemmas.Result.{err_from_is_err_and}
use Rattle.cbf_format.specs.SectionCalls.{placed_at}
use Rattle.cbf_sections.proofs.SectionCallsLaws.{frame-of, frame_refused, frame-says}
use Rattle.cbf_format.specs.Files as F
use Rattle.cbf_sections.proofs.frame.unpack.Goals as goal

pub returns-in_err-s-clause-answer : goal.returns-in_err-s-clause-answer
returns-in_err-s-clause-answer c =
    let a = c.args in
    let p = err_from_is_err_and c.from_residual.result c.from_residual.ensures.1 in
    rw (p.1, p.2) (frame_refused a.file.now a.number (F.read a.limit a.file.now) c.in_err-s.field-0.0 a.out.now c.in_err-s.ensures).0

pub returns-in_err-s-clause-output : goal.returns-in_err-s-clause-output
returns-in_err-s-clause-output c =
    let a = c.args in
    (frame_refused a.file.now a.number (F.read a.limit a.file.now) c.in_err-s.field-0.0 a.out.now c.in_err-s.ensures).1

pub unpack_octets-requires : goal.unpack_octets-requires
unpack_octets-requires c =
    let a = c.args in
    let f = frame-of a.limit a.number a.file.now c.in_ok-s.s c.in_ok-s.ensures in
    (f.0, f.2)

pub returns-clause-answer : goal.returns-clause-answer
returns-clause-answer c =
    let a = c.args in
    let f = frame-of a.limit a.number a.file.now c.in_ok-s.s c.in_ok-s.ensures in
    c.placed.ensures
    ∙ ap (placed_at c.in_ok-s.s.first) (c.unpack_octets.ensures.answer f.0 f.2)
    ∙ (frame-says a.limit a.number a.file.now f.1 f.2 a.out.now).0

pub returns-clause-output : goal.returns-clause-output
returns-clause-output c =
    let a = c.args in
    let f = frame-of a.limit a.number a.file.now c.in_ok-s.s c.in_ok-s.ensures in
    c.unpack_octets.ensures.output f.0 f.2 ∙ (frame-says a.limit a.number a.file.now f.1 f.2 a.out.now).1
