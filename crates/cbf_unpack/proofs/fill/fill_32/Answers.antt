-- Each turn writes four pixels more; the loop ends behind the last of them.
use mathlib.Core.Path.{refl}
use native.Mathlib.Omega.{arith}
use Rattle.cbf_unpack.proofs.FillLaws.{filled-then, ready-then}
use Rattle.cbf_unpack.proofs.fill.fill_32.Goals as goal

pub fill_each-last-requires : goal.fill_each-last-requires
fill_each-last-requires c =
    let P = c.requires in
    ready-then 4 60 P.0 c.loop-j.invariant.2 (omega arith) (omega arith) refl P.2

pub loop-j-preserved : goal.loop-j-preserved
loop-j-preserved c = (omega arith, omega arith, filled-then c.loop-j.invariant.2 c.fill_each-last.ensures refl refl)
