-- The octets of the text from at up to i are written from `from` up to k; up to the next letter nothing is.
use mathlib.Core.Logic.{inr}
use native.Mathlib.Omega.{arith}
use Rattle.cbf_letters.proofs.OctetsLaws.{decodes-past, decodes-both, decodes-still, octets-end}
use Rattle.cbf_letters.proofs.octets.decode.Goals as goal

pub returns-then-to-i : goal.returns-then-to-i
returns-then-to-i c =
    let e = c.next_place-i.ensures in
    let d = decodes-past c.loop-out.invariant e.0 e.1 e.2 in
    (d, inr (octets-end d (omega arith)))

pub loop-out-preserved-then-n-eq0 : goal.loop-out-preserved-then-n-eq0
loop-out-preserved-then-n-eq0 c =
    let e = c.next_place-i.ensures in
    let d = decodes-past c.loop-out.invariant e.0 e.1 e.2 in
    decodes-both (decodes-both d (decodes-still c.decode_run-n.result (omega arith) c.decode_run-n.ensures.1)) c.decode_group-i.ensures.1

pub loop-out-preserved : goal.loop-out-preserved
loop-out-preserved c =
    let e = c.next_place-i.ensures in
    decodes-both (decodes-past c.loop-out.invariant e.0 e.1 e.2) c.decode_run-n.ensures.1
