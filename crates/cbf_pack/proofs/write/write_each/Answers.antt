use Rattle.std.proofs.Common.{refl, arith}
use Rattle.cbf_pack.proofs.WriteLaws.{gap-fits, gap-room, writable-word, upto-none, upto_all, upto-writable, upto-one}
use Rattle.cbf_pack.proofs.write.write_each.Goals as goal

pub loop-z-init : goal.loop-z-init
loop-z-init c = upto-none refl refl

pub overflow_sub-z : goal.overflow_sub-z
overflow_sub-z c = gap-fits _ (upto-writable (writable-word c.requires) c.loop-z.invariant 1 c.loop-z.z-index (omega arith) (omega arith))

pub put_difference-next-requires : goal.put_difference-next-requires
put_difference-next-requires c =
    gap-room _ (upto-writable (writable-word c.requires) c.loop-z.invariant 1 c.loop-z.z-index (omega arith) (omega arith))

pub loop-z-preserved : goal.loop-z-preserved
loop-z-preserved c =
    upto-one (writable-word c.requires) c.loop-z.invariant c.loop-z.z-index (omega arith) (omega arith) c.put_difference-next.ensures

pub returns : goal.returns
returns c = upto_all c.loop-z.invariant c.requires.before (omega arith)
