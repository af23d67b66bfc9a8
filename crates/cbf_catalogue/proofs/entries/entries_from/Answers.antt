-- `entries_from`: each goal is one law of the invariant.
use Rattle.std.proofs.Common.{Ok, Err, Some, None, refl}
use Rattle.std.proofs.lemmas.Result.{err_from_is_err_and}
use native.Mathlib.Omega.{arith}
use Rattle.cbf_reader.proofs.LoopLaws.{loop-onward}
use Rattle.cbf_catalogue.proofs.EntriesLaws.{entered-start, entered-refused, entered-end, entered-block, entered-room}
use Rattle.cbf_catalogue.proofs.EntriesLaws.{entered-written, entered-counted}
use Rattle.cbf_catalogue.proofs.entries.entries_from.Goals.{then-writing, else-writing}
use Rattle.cbf_catalogue.proofs.entries.entries_from.Goals as goal

pub loop-next-init : goal.loop-next-init
loop-next-init c =
    let a = c.args in
    entered-start a.limit a.file.now a.out.now a.writing a.first c.requires.0 c.requires.2

pub returns-in_err-next : goal.returns-in_err-next
returns-in_err-next c =
    let p = err_from_is_err_and c.from_residual.result c.from_residual.ensures.1 in
    let r = entered-refused c.loop-next.invariant {r = Err c.in_err-next.field-0.0} c.in_err-next.ensures c.requires.3 refl in
    rw (p.1, p.2) (record { value = r.0; out_after = r.1 })

pub put_entry-requires : goal.put_entry-requires
put_entry-requires c =
    let says = rw c.in-Some.is at c.in_ok-next.ensures in
    entered-room c.loop-next.invariant {r = Ok (Some c.in-Some.next)} says refl c.requires.3 c.if-writing.true

pub with_name-found-requires : goal.with_name-found-requires
with_name-found-requires c =
    let says = rw c.in-Some.is at c.in_ok-next.ensures in
    entered-block c.loop-next.invariant {r = Ok (Some c.in-Some.next)} says refl

pub loop-next-smaller : goal.loop-next-smaller
loop-next-smaller c =
    loop-onward c.loop-next.invariant.here {r = Ok (Some c.in-Some.next)} (rw c.in-Some.is at c.in_ok-next.ensures) refl

pub loop-next-preserved : goal.loop-next-preserved
loop-next-preserved c =
    let k = c.loop-next.invariant in
    let says = rw c.in-Some.is at c.in_ok-next.ensures in
    elim c.if-writing.branch [
      | then-writing w ↦ rw (w.found-is, w.out-is)
          (entered-written k {r = Ok (Some c.in-Some.next)} says refl c.requires.3 w.if-writing.true w.put_entry.ensures.out_after)
      | else-writing w ↦ rw (w.found-is, w.out-is)
          (entered-counted k {r = Ok (Some c.in-Some.next)} says refl w.if-writing.false w.with_name-found.ensures)
    ]

pub returns : goal.returns
returns c =
    let r = entered-end c.loop-next.invariant {r = Ok None} (rw c.in_default.is at c.in_ok-next.ensures) c.finished.ensures refl in
    record { value = r.0; out_after = r.1 }
