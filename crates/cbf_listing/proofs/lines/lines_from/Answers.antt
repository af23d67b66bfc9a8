-- `lines_from`: each goal is one law of the invariant.
use Rattle.std.proofs.Common.{Ok, Err, Some, None, refl}
use Rattle.std.proofs.lemmas.Result.{err_from_is_err_and}
use native.Mathlib.Omega.{arith}
use Rattle.cbf_reader.proofs.LoopLaws.{loop-onward}
use Rattle.cbf_listing.proofs.LinesLaws.{listed_start, listed-refused, listed-end, listed-block, listed-room}
use Rattle.cbf_listing.proofs.LinesLaws.{listed-written, listed-measured}
use Rattle.cbf_listing.proofs.lines.lines_from.Goals.{then-writing, else-writing}
use Rattle.cbf_listing.proofs.lines.lines_from.Goals as goal

pub loop-next-init : goal.loop-next-init
loop-next-init c =
    let a = c.args in
    listed_start a.limit a.file.now a.out.now a.writing a.first c.requires.0 c.requires.2

pub returns-in_err-next : goal.returns-in_err-next
returns-in_err-next c =
    let p = err_from_is_err_and c.from_residual.result c.from_residual.ensures.1 in
    let r = listed-refused c.loop-next.invariant {r = Err c.in_err-next.field-0.0} c.in_err-next.ensures c.requires.3 refl in
    rw (p.1, p.2) (record { value = r.0; out_after = r.1 })

pub put_line-at-requires : goal.put_line-at-requires
put_line-at-requires c =
    let k = c.loop-next.invariant in
    let says = rw c.in-Some.is at c.in_ok-next.ensures in
    let b = listed-block k {r = Ok (Some c.in-Some.next)} says refl in
    (b.0, b.1, listed-room k {r = Ok (Some c.in-Some.next)} says refl c.requires.3 c.if-writing.true)

pub line_length-requires : goal.line_length-requires
line_length-requires c =
    let says = rw c.in-Some.is at c.in_ok-next.ensures in
    let b = listed-block c.loop-next.invariant {r = Ok (Some c.in-Some.next)} says refl in
    (b.0, omega (arith, b.1, b.2))

pub overflow_add-at : goal.overflow_add-at
overflow_add-at c =
    let k = c.loop-next.invariant in
    record { fits = omega (arith, k.bound, k.here.come.ready.few, c.line_length.ensures.1) }

pub loop-next-smaller : goal.loop-next-smaller
loop-next-smaller c =
    loop-onward c.loop-next.invariant.here {r = Ok (Some c.in-Some.next)} (rw c.in-Some.is at c.in_ok-next.ensures) refl

pub loop-next-preserved : goal.loop-next-preserved
loop-next-preserved c =
    let k = c.loop-next.invariant in
    let says = rw c.in-Some.is at c.in_ok-next.ensures in
    elim c.if-writing.branch [
      | then-writing w ↦ rw (w.at-is, w.out-is)
          (listed-written k {r = Ok (Some c.in-Some.next)} says refl w.if-writing.true
          (w.put_line-at.ensures.value, w.put_line-at.ensures.out_after))
      | else-writing w ↦ rw (w.at-is, w.out-is)
          (listed-measured k {r = Ok (Some c.in-Some.next)} says refl w.if-writing.false
          (w.line_length.ensures.0 c.args.file.now (listed-block k {r = Ok (Some c.in-Some.next)} says refl).1))
    ]

pub returns : goal.returns
returns c =
    let r = listed-end c.loop-next.invariant {r = Ok None} (rw c.in_default.is at c.in_ok-next.ensures) refl in
    record { value = r.0; out_after = r.1 }
