-- The pass over the sections, from the cursor before the first line: each is the one requested, or another.
use Rattle.std.proofs.Common.{Ok, Err, Some, None, refl}
use Rattle.std.proofs.lemmas.Result.{err_from_is_err_and}
use Rattle.cbf_reader.proofs.LoopLaws.{loop-onward}
use Rattle.cbf_reader.proofs.WholeFileLaws.{surveyed-start, surveyed-refused, surveyed-end, surveyed-here, surveyed-other}
use Rattle.cbf_reader.proofs.whole_file.read_file.Goals.{then-next-number, else-next-number}
use Rattle.cbf_reader.proofs.whole_file.read_file.Goals as goal

pub loop-next-init : goal.loop-next-init
loop-next-init c =
    let a = c.args in
    let says = c.in_ok-cursor.ensures a.limit in
    surveyed-start a.limit a.file.now a.number c.in_ok-cursor.cursor says.0 says.3

pub returns-in_err-next : goal.returns-in_err-next
returns-in_err-next c =
    let says = c.in_ok-cursor.ensures c.args.limit in
    let p = err_from_is_err_and c.from_residual-in_err-next.result c.from_residual-in_err-next.ensures.1 in
    rw (p.1, p.2, says.1) (surveyed-refused c.loop-next.invariant {r = Err c.in_err-next.field-0.0} c.in_err-next.ensures refl)

pub loop-next-smaller : goal.loop-next-smaller
loop-next-smaller c =
    loop-onward c.loop-next.invariant.here {r = Ok (Some c.in-Some.next)} (rw c.in-Some.is at c.in_ok-next.ensures) refl

pub loop-next-preserved : goal.loop-next-preserved
loop-next-preserved c =
    let k = c.loop-next.invariant in
    let says = rw c.in-Some.is at c.in_ok-next.ensures in
    elim c.if-next-number.branch [
      | then-next-number w ↦ rw w.requested-is (surveyed-here k {r = Ok (Some c.in-Some.next)} says refl w.if-next-number.true)
      | else-next-number w ↦ rw w.requested-is (surveyed-other k {r = Ok (Some c.in-Some.next)} says refl w.if-next-number.false)
    ]

pub returns : goal.returns
returns c =
    let says = c.in_ok-cursor.ensures c.args.limit in
    rw says.1 (surveyed-end c.loop-next.invariant {r = Ok None} (rw c.in_default.is at c.in_ok-next.ensures) refl)
