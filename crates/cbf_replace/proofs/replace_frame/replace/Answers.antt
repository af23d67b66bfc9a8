use Rattle.std.proofs.lemmas.Result.{err_from_is_err_and}
use Rattle.cbf_replace.proofs.ReplaceFrameLaws.{here_of, replace-refused, replace-text, replace-binary}
use Rattle.cbf_replace.proofs.replace_frame.replace.Goals as goal

pub returns-in_err-found : goal.returns-in_err-found
returns-in_err-found c =
    let a = c.args in
    let p = err_from_is_err_and c.from_residual.result c.from_residual.ensures.1 in
    let r = replace-refused a.limit a.file.now a.number c.in_err-found.field-0.0 a.frame.now a.out.now c.in_err-found.ensures in
    record { answer = rw (p.1, p.2) r.0; output = r.1 }

pub replace_section-requires : goal.replace_section-requires
replace_section-requires c =
    let a = c.args in
    let h = (here_of a.limit a.number a.file.now c.in_ok-found.found c.in_ok-found.ensures).1 in
    (h.there, h.few)

pub returns-in-Binary : goal.returns-in-Binary
returns-in-Binary c =
    let a = c.args in
    let h = (here_of a.limit a.number a.file.now c.in_ok-found.found c.in_ok-found.ensures).1 in
    let e = c.replace_section.ensures in
    let r = replace-binary h a.frame.now a.out.now c.in-Binary.is (e.answer, e.output) in
    record { answer = r.0; output = r.1 }

pub returns-in-Base64 : goal.returns-in-Base64
returns-in-Base64 c =
    let a = c.args in
    let h = (here_of a.limit a.number a.file.now c.in_ok-found.found c.in_ok-found.ensures).1 in
    let r = replace-text h a.frame.now a.out.now c.in-Base64.is in
    record { answer = rw c.at.ensures r.0; output = r.1 }
