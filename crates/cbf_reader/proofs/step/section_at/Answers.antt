-- What the section reads, by what its headers and its data do.
use Rattle.std.proofs.Common.{◌∙◌, ap, Ok, Err}
use Rattle.std.proofs.lemmas.Result.{err_from_is_err_and}
use Rattle.cbf_reader.proofs.StepLaws.{with_data, section-read, headers-within}
use Rattle.cbf_reader.proofs.step.section_at.Goals as goal

pub returns-in_err-headers : goal.returns-in_err-headers
returns-in_err-headers c b =
    let a = c.args in
    let p = err_from_is_err_and c.from_residual.result c.from_residual.ensures.1 in
    rw (p.1, p.2)
    (section-read a.limit a.file.now a.from a.at c.requires.0 a.block b (Err c.in_err-headers.field-0.0) c.in_err-headers.ensures)

pub data_for-requires : goal.data_for-requires
data_for-requires c =
    let a = c.args in
    (headers-within a.limit a.file.now a.at c.requires.1 c.in_ok-headers.headers c.in_ok-headers.ensures, c.requires.2)

pub returns-in_err-data : goal.returns-in_err-data
returns-in_err-data c b =
    let a = c.args in
    let p = err_from_is_err_and c.from_residual-in_err-data.result c.from_residual-in_err-data.ensures.1 in
    rw (p.1, p.2)
    (ap (with_data a.from a.block c.in_ok-headers.headers.description) c.in_err-data.ensures
    ∙ section-read a.limit a.file.now a.from a.at c.requires.0 a.block b (Ok c.in_ok-headers.headers) c.in_ok-headers.ensures)

pub returns : goal.returns
returns c b =
    let a = c.args in
    ap (with_data a.from a.block c.in_ok-headers.headers.description) c.in_ok-data.ensures
    ∙ section-read a.limit a.file.now a.from a.at c.requires.0 a.block b (Ok c.in_ok-headers.headers) c.in_ok-headers.ensures
