use Rattle.std.proofs.Common.{refl, arith}
use Rattle.cbf_pack.proofs.WriteLaws.{gap-fits, gap-room, writable-word}
use Rattle.cbf_pack.proofs.DenseLaws.{along-none, along-writable, along-room, along_one, along-all}
use Rattle.cbf_pack.proofs.dense.write_dense.Goals as goal

pub loop-j-init : goal.loop-j-init
loop-j-init c = along-none refl refl

pub overflow_sub-z : goal.overflow_sub-z
overflow_sub-z c = gap-fits _ (along-writable (writable-word c.requires.1) c.loop-j.invariant 1 c.loop-j.j (omega arith) (omega arith))

pub put_over-next-requires : goal.put_over-next-requires
put_over-next-requires c =
    let w = writable-word c.requires.1 in
    let i = c.loop-j.j in (
      c.requires.0,
      along-room w c.loop-j.invariant 8 i (omega arith) (omega arith),
      gap-room _ (along-writable w c.loop-j.invariant 1 i (omega arith) (omega arith)),
    )

pub loop-j-preserved : goal.loop-j-preserved
loop-j-preserved c =
    along_one (writable-word c.requires.1) c.loop-j.invariant c.loop-j.j (omega arith) (omega arith) c.put_over-next.ensures

pub returns : goal.returns
returns c = along-all c.loop-j.invariant c.requires.1.before (omega arith)
