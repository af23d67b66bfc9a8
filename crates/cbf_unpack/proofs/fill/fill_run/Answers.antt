-- Each turn writes a block of 32; the loop ends behind the last of them.
use Prim.Native.Nat.{◌+◌}
use mathlib.Core.Path.{◌≡◌, refl, sym}
use native.Mathlib.Omega.{arith}
use Rattle.cbf_pixels.proofs.Integers.{held}
use Rattle.cbf_octets.proofs.PlainLaws.{plain-part}
use Rattle.cbf_unpack.proofs.FillLaws.{filled-then, filled-as, filled-length, unpacks-then, unpacks-held}
use Rattle.cbf_unpack.proofs.fill.fill_run.Goals as goal

pub fill_block-z-requires : goal.fill_block-z-requires
fill_block-z-requires c =
    let a = c.args in
    let P = c.requires in
    let l = c.loop-j in (
      unpacks-then 32 (unpacks-held P.0) l.invariant.2 (omega arith),
      omega arith,
      plain-part a.octets.now a.i l.j a.n 32 P.2 (omega arith),
      omega (arith, filled-length l.invariant.2),
    )

pub loop-j-preserved : goal.loop-j-preserved
loop-j-preserved c =
    let f = c.fill_block-z.ensures in (
      omega arith,
      omega arith,
      filled-as (filled-then c.loop-j.invariant.2 f refl refl) refl refl (sym (held c.fill_block-z.result (omega (arith, f.after)))) (omega arith),
    )

pub returns-2 : goal.returns-2
returns-2 c =
    let f = c.fill_block-z.ensures in
    let e : c.loop-j.j + 32 ≡ c.args.n = omega arith in
    filled-as (filled-then c.loop-j.invariant.2 f refl refl) (held c.args.pixel (omega (arith, c.requires.0.before))) e
    (sym (held c.fill_block-z.result (omega (arith, f.after)))) (omega arith)
