-- `catalogue`: the entries are counted, and written behind the heading where there is room for them.
use Rattle.std.proofs.Common.{◌≡◌, ◌∙◌, sym, ap, arith}
use Rattle.std.proofs.lemmas.Result.{err_from_is_err_and}
use Rattle.cbf_catalogue.proofs.WriteCatalogueLaws.{not-refused, few-counted, catalogue-refused, catalogue-no-room}
use Rattle.cbf_catalogue.proofs.WriteCatalogueLaws.{catalogue-fits, catalogue-has-room}
use Rattle.cbf_catalogue.proofs.write_catalogue.catalogue.Goals as goal

pub returns-in_err-count : goal.returns-in_err-count
returns-in_err-count c =
    let a = c.args in
    let e = c.in_err-count.ensures in
    let p = err_from_is_err_and c.from_residual.result c.from_residual.ensures.1 in
    let r = catalogue-refused a.limit a.file.now a.out.now e.out_after e.value in
    rw (p.1, p.2) (record { answer = r.0; output = r.1 })

pub overflow_mul-needed : goal.overflow_mul-needed
overflow_mul-needed c = record { fits = omega (arith, few-counted c.args.limit c.args.file.now c.in_ok-count.ensures.value) }

pub overflow_add-needed : goal.overflow_add-needed
overflow_add-needed c = record { fits = omega (arith, few-counted c.args.limit c.args.file.now c.in_ok-count.ensures.value) }

pub returns-then-out-needed : goal.returns-then-out-needed
returns-then-out-needed c =
    let a = c.args in
    let e = c.in_ok-count.ensures in
    let r = catalogue-no-room a.limit a.file.now a.out.now e.out_after e.value (omega arith) in
    record { answer = rw c.at.ensures r.0; output = r.1 }

pub entries-requires-2 : goal.entries-requires-2
entries-requires-2 c =
    let a = c.args in
    let e = c.in_ok-count.ensures in
    λ on. catalogue-fits a.limit a.file.now a.out.now e.out_after e.value (omega arith) c.put_heading.ensures

pub returns-in_err-entries : goal.returns-in_err-entries
returns-in_err-entries c = absurd (not-refused c.in_ok-count.ensures.value c.in_err-entries.ensures.value)

pub returns : goal.returns
returns c =
    let a = c.args in
    let e = c.in_ok-count.ensures in
    let r = catalogue-has-room a.limit a.file.now a.out.now e.out_after e.value (omega arith) c.put_heading.ensures c.in_ok-entries.ensures.out_after in
    record { answer = r.0; output = r.1 }
