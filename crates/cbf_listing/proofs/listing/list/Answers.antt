-- `list`: the lines are measured, and written where there is room for them.
use Rattle.std.proofs.Common.{◌≡◌, ◌∙◌, sym, ap, length, ◌<◌, ◌≤◌, arith}
use Rattle.std.proofs.lemmas.Result.{err_from_is_err_and}
use Rattle.cbf_listing.proofs.ListingLaws.{list-refused, list-no-room, list-has-room}
use Rattle.cbf_format.specs.Files as F
use Rattle.cbf_listing.proofs.listing.list.Goals as goal

pub returns-in_err-needed : goal.returns-in_err-needed
returns-in_err-needed c =
    let a = c.args in
    let p = err_from_is_err_and c.from_residual.result c.from_residual.ensures.1 in
    let r = list-refused (F.read a.limit a.file.now) a.out.now c.in_err-needed.field-0.0 c.in_err-needed.ensures.value in
    rw (p.1, p.2) (record { answer = r.0; output = c.in_err-needed.ensures.out_after ∙ r.1 })

pub returns-then-out-needed : goal.returns-then-out-needed
returns-then-out-needed c =
    let a = c.args in
    let e = c.in_ok-needed.ensures in
    let h : length a.out.now < c.in_ok-needed.needed = omega (arith, ap length e.out_after) in
    let r = list-no-room (F.read a.limit a.file.now) a.out.now c.in_ok-needed.needed e.value h in
    record { answer = rw c.at.ensures r.0; output = e.out_after ∙ r.1 }

pub returns : goal.returns
returns c =
    let a = c.args in
    let e = c.in_ok-needed.ensures in
    let h : c.in_ok-needed.needed ≤ length a.out.now = omega (arith, ap length e.out_after) in
    let r = list-has-room (F.read a.limit a.file.now) a.out.now c.in_ok-needed.needed e.value h in
    record {
      answer = rw (c.lines-2.ensures.value ∙ sym e.value) r.1.0;
      output = c.lines-2.ensures.out_after ∙ rw e.out_after r.1.1;
    }
