-- What follows from the marker, the octets and their closing.
use Rattle.std.proofs.Common.{◌≡◌, ◌∙◌, refl, sym, arith, None, Some}
use Rattle.std.proofs.lemmas.Result.{err_from_is_err_and}
use Rattle.cbf_reader.proofs.DataLaws.{binary-unmarked, binary-few, binary-closed}
use Rattle.cbf_reader.proofs.data.binary_data.Goals as goal

pub returns-then-not-starts_with : goal.returns-then-not-starts_with
returns-then-not-starts_with c =
    let a = c.args in
    rw c.at.ensures
    (binary-unmarked a.file.now a.limit a.size a.at (sym c.starts_with.ensures.value ∙ c.if-not-starts_with.true))

pub returns-then-file-first : goal.returns-then-file-first
returns-then-file-first c =
    let a = c.args in
    rw c.at-then-file-first.ensures
    (binary-few a.file.now a.limit a.size a.at refl (omega arith) (sym c.starts_with.ensures.value ∙ c.if-not-starts_with.false)
    c.if-file-first.true)

pub returns-in_err-ending : goal.returns-in_err-ending
returns-in_err-ending c =
    let a = c.args in
    let p = err_from_is_err_and c.from_residual.result c.from_residual.ensures.1 in
    let n = c.in_err-ending.ensures.ok_part in
    let q : c.in_err-ending.field-0.0 ≡ c.at-unclosed.result = let v = rw n at c.in_err-ending.ensures.value in cc in
    rw (p.1, p.2, q, c.at-unclosed.ensures)
    (binary-closed a.file.now a.limit a.size a.at refl (omega arith) (sym c.starts_with.ensures.value ∙ c.if-not-starts_with.false)
    refl (omega arith) None (sym n ∙ c.closed.ensures))

pub returns : goal.returns
returns c =
    let a = c.args in
    binary-closed a.file.now a.limit a.size a.at refl (omega arith) (sym c.starts_with.ensures.value ∙ c.if-not-starts_with.false)
    refl (omega arith) (Some c.in_ok-ending.ending) (sym c.in_ok-ending.ensures.ok_part ∙ c.closed.ensures)
