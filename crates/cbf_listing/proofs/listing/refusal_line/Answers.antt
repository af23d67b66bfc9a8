-- `refusal_line`: the parts of the line, put one after another.
use mathlib.Core.Path.{◌≡◌, refl, ap, ◌∙◌}
use native.Mathlib.Omega.{arith}
use Prim.Native.Nat.{ℕ, ◌+◌, ◌<◌}
use lib.ListN.{length}
use Rattle.cbf_walk.specs.Reading.{refused}
use Rattle.cbf_format.specs.Listing.{printed, listing}
use Rattle.cbf_listing.proofs.ListingLaws.{refusal-length, refusal-put}
use Rattle.cbf_listing.proofs.SectionLineLaws.{put-as}
use Rattle.cbf_answers.proofs.Rooms.{no_room, has_room}
use Rattle.cbf_listing.proofs.listing.refusal_line.Goals as goal

pub returns-then-out-n : goal.returns-then-out-n
returns-then-out-n c =
    let k = c.args.refusal.number in
    let p = c.args.refusal.place in
    let n : length c.args.out.now < length (listing (refused k p)) =
    omega (arith, refusal-length k p, ap (λ (k : ℕ). length (printed k)) c.from-number.ensures) in
    let r = no_room (listing (refused k p)) c.args.out.now {n = length (listing (refused k p))} refl refl n in
    record { answer = rw c.at.ensures r.0; output = r.1 }

pub returns : goal.returns
returns c =
    let k = c.args.refusal.number in
    let p = c.args.refusal.place in
    let n : 13 + c.digit_count.result + c.digit_count-2.result ≡ length (listing (refused k p)) =
    omega (arith, refusal-length k p, ap (λ (k : ℕ). length (printed k)) c.from-number.ensures) in
    let r = has_room (listing (refused k p)) c.args.out.now refl n (omega arith) in
    let a = c.put_text-after_word in
    let b = c.put_number-after_number in
    let d = c.put_text-after_at in
    let e = c.put_number-after_place in
    let q = refusal-put c.args.out.now k p (a.ensures.value, a.ensures.out_after)
    (put-as _ _ (ap printed c.from-number.ensures) b.ensures.value b.ensures.out_after)
    (d.ensures.value, d.ensures.out_after) (e.ensures.value, e.ensures.out_after)
    (c.put_text.ensures.value, c.put_text.ensures.out_after) in
    record { answer = r.0; output = q.1 ∙ r.1 }
