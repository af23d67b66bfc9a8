-- The place for each answer of the reader.
use Rattle.std.proofs.Common.{Ok, Err}
use Rattle.std.proofs.lemmas.Result.{err_from_is_err_and}
use Rattle.cbf_sections.proofs.SectionCallsLaws.{place_in}
use Rattle.cbf_sections.proofs.section_calls.octets_at.Goals as goal

pub returns-in_err-s : goal.returns-in_err-s
returns-in_err-s c =
    let a = c.args in
    let p = err_from_is_err_and c.from_residual.result c.from_residual.ensures.1 in
    record { answer = rw (p.1, p.2) (place_in a.limit a.number a.file.now (Err c.in_err-s.field-0.0) c.in_err-s.ensures) }

pub returns-in-Binary : goal.returns-in-Binary
returns-in-Binary c =
    let a = c.args in
    record { answer = rw c.in-Binary.is at (place_in a.limit a.number a.file.now (Ok c.in_ok-s.s) c.in_ok-s.ensures) }

pub returns-in-Base64 : goal.returns-in-Base64
returns-in-Base64 c =
    let a = c.args in
    record {
      answer = rw c.at.ensures (rw c.in-Base64.is at (place_in a.limit a.number a.file.now (Ok c.in_ok-s.s) c.in_ok-s.ensures));
    }
