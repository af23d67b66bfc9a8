-- All octets are one part.
use native.Mathlib.Omega.{arith}
use Rattle.cbf_unpack.proofs.FillLaws.{fillable-start, filled-end}
use Rattle.cbf_unpack.proofs.fill.fill.Goals as goal

pub fill_part-requires : goal.fill_part-requires
fill_part-requires c = let a = c.args in (fillable-start a.kind a.count a.octets.now c.requires.0, omega arith, omega arith)

pub returns : goal.returns
returns c = let P = c.requires in filled-end c.args.kind P.0 P.1 c.fill_part.ensures
