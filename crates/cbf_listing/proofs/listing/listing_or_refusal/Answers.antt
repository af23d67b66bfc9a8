-- `listing_or_refusal`: what `list` and `refusal_line` ensure.
use lib.ListN.{length}
use Rattle.cbf_listing.proofs.ListingLaws.{shown-listing, shown-refusal}
use Rattle.cbf_format.specs.Files as F
use Rattle.cbf_listing.proofs.listing.listing_or_refusal.Goals as goal

pub returns-in-Ok : goal.returns-in-Ok
returns-in-Ok c =
    let a = c.args in
    let q = shown-listing (F.read a.limit a.file.now) (length a.out.now) c.in-Ok.n c.in-Ok.ensures.answer in
    rw (q.0, ← q.1) (record { answer = c.in-Ok.ensures.answer; output = c.in-Ok.ensures.output })

pub returns-in-Err : goal.returns-in-Err
returns-in-Err c =
    let a = c.args in
    let r = c.in-Err.refusal in
    let q = shown-refusal (F.read a.limit a.file.now) a.out.now r.number r.place c.in-Err.ensures.answer c.in-Err.ensures.output in
    let e = rw q.1 at c.refusal_line.ensures in
    rw q.0 (record { answer = e.answer; output = e.output })
