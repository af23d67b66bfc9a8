-- What follows from the text, from what it decodes to, and from the line after it.
use Rattle.std.proofs.Common.{◌≡◌, ◌∙◌, sym, arith, None, Some}
use Rattle.std.proofs.lemmas.Result.{err_from_is_err_and}
use Rattle.cbf_reader.proofs.DataLaws.{base64-stopped, base64-bounds, base64-wrong, base64-closed}
use Rattle.cbf_reader.proofs.data.base64_data.Goals as goal

pub returns-in_err-text : goal.returns-in_err-text
returns-in_err-text c =
    let a = c.args in
    let p = err_from_is_err_and c.from_residual.result c.from_residual.ensures.1 in
    rw (p.1, p.2) (base64-stopped a.file.now a.limit a.size a.at c.in_err-text.ensures.0)

pub returns-then-not-groups_hold : goal.returns-then-not-groups_hold
returns-then-not-groups_hold c =
    let a = c.args in
    rw c.at.ensures
    (base64-wrong a.file.now a.limit a.size a.at c.in_ok-text.text c.in_ok-text.ensures.0
    (sym c.groups_hold.ensures ∙ c.if-not-groups_hold.true))

pub semicolon_line-requires : goal.semicolon_line-requires
semicolon_line-requires c =
    let a = c.args in
    (base64-bounds a.file.now a.limit a.size a.at c.in_ok-text.text c.in_ok-text.ensures.0 c.requires.0).1

pub returns-in_err-next : goal.returns-in_err-next
returns-in_err-next c =
    let a = c.args in
    let p = err_from_is_err_and c.from_residual-in_err-next.result c.from_residual-in_err-next.ensures.1 in
    let n = c.in_err-next.ensures.ok_part in
    let q : c.in_err-next.field-0.0 ≡ c.at-unclosed.result = let v = rw n at c.in_err-next.ensures.value in cc in
    rw (p.1, p.2, q, c.at-unclosed.ensures)
    (base64-closed a.file.now a.limit a.size a.at c.in_ok-text.text c.in_ok-text.ensures.0
    (sym c.groups_hold.ensures ∙ c.if-not-groups_hold.false) None (sym n ∙ c.semicolon_line.ensures))

pub overflow_add-result : goal.overflow_add-result
overflow_add-result c =
    let a = c.args in
    let b = base64-bounds a.file.now a.limit a.size a.at c.in_ok-text.text c.in_ok-text.ensures.0 c.requires.0 in
    omega (arith, b.0, b.1)

pub returns : goal.returns
returns c =
    let a = c.args in
    base64-closed a.file.now a.limit a.size a.at c.in_ok-text.text c.in_ok-text.ensures.0
    (sym c.groups_hold.ensures ∙ c.if-not-groups_hold.false) (Some c.in_ok-next.next)
    (sym c.in_ok-next.ensures.ok_part ∙ c.semicolon_line.ensures)
