-- Each turn writes one pixel more.
use mathlib.Core.Path.{refl}
use native.Mathlib.Omega.{arith}
use Rattle.cbf_unpack.proofs.FillLaws.{filled-then, ready-then}
use Rattle.cbf_unpack.proofs.fill.fill_each.Goals as goal

pub fill_one-last-requires : goal.fill_one-last-requires
fill_one-last-requires c =
    let P = c.requires in
    ready-then 1 15 P.0 c.loop-j.invariant (omega arith) (omega arith) refl P.2

pub loop-j-preserved : goal.loop-j-preserved
loop-j-preserved c = filled-then c.loop-j.invariant c.fill_one-last.ensures refl refl
