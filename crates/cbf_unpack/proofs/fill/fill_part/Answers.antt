-- Each turn writes n pixels more, plain ones or others, and there is one.
use mathlib.Core.Path.{refl, sym}
use mathlib.Core.Logic.{inl, inr}
use native.Mathlib.Omega.{arith}
use Rattle.cbf_pixels.proofs.Integers.{held}
use Rattle.cbf_unpack.proofs.FillLaws.{unpacks-held, part_then_lem, run-then, filled-then, filled-as, filled-part}
use Rattle.cbf_unpack.proofs.fill.fill_part.Goals as goal
use Rattle.cbf_unpack.proofs.fill.fill_part.Goals.{then-n-eq0, else-n-eq0}

pub fill_few-last-requires : goal.fill_few-last-requires
fill_few-last-requires c =
    let P = c.requires in
    let l = c.loop-j in
    let n = c.part-n in
    let w = c.waits.ensures.1 c.if-not-waits.true in
    let r = part_then_lem n.result P.0 P.1 l.invariant.1 w (omega arith) n.ensures.1 refl P.2 in
    (r.0, r.1, r.2, n.ensures.1)

pub fill_run-pixel-requires : goal.fill_run-pixel-requires
fill_run-pixel-requires c =
    let P = c.requires in
    let e = c.plain_run-n.ensures in
    let r = run-then c.plain_run-n.result P.0 P.1 c.loop-j.invariant.1 (omega arith) refl P.2 in
    (unpacks-held r.0, e.inside, e.plain, e.blocks, r.1)

pub loop-j-preserved : goal.loop-j-preserved
loop-j-preserved c =
    let l = c.loop-j in
    elim c.if-n-eq0.branch [
      | then-n-eq0 w ↦ (
        omega (arith, w.n-is, w.part-n.ensures.0),
        rw (w.out-is, w.last-is, w.n-is) (filled-then l.invariant.1 w.fill_few-last.ensures refl refl),
      )
      | else-n-eq0 w ↦ (
        omega (arith, w.n-is, c.plain_run-n.ensures.few),
        rw (w.out-is, w.last-is, w.n-is) (filled-then l.invariant.1
            (filled-as w.fill_run-pixel.ensures (held l.last.pixel (omega (arith, l.invariant.1.after))) refl
            (sym (held w.fill_run-pixel.result (omega (arith, w.fill_run-pixel.ensures.after)))) refl) refl refl),
      )
    ]

pub returns-after-loop-j : goal.returns-after-loop-j
returns-after-loop-j c = let l = c.loop-j in filled-part _ l.invariant.1 l.invariant.0 (inl (omega arith)) refl refl refl

pub returns-else-not-waits : goal.returns-else-not-waits
returns-else-not-waits c =
    let l = c.loop-j in
    let w = c.waits.ensures.0 c.if-not-waits.false in
    filled-part _ l.invariant.1 l.invariant.0 (inr (w.0, omega (arith, w.1))) refl refl refl
