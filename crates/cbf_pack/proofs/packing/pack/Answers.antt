use Rattle.cbf_pack.proofs.PackingLaws.{Packed, ample-write, ample-done}
use Rattle.std.proofs.Common.{arith}
use Rattle.cbf_pack.proofs.packing.pack.Goals as goal

-- The test of the number of pixels is not named here: a changed one is refused for what it says, and not for its name.

pub write_octets-requires : goal.write_octets-requires
write_octets-requires c =
    let a = c.args in
    ample-write a.kind a.pixels.now a.out.now (omega arith) (c.all_typed.ensures c.if-not-all_typed.false) (omega arith)

pub returns-clause-answer : goal.returns-clause-answer
unfolding Packed
returns-clause-answer c =
    let a = c.args in
    (ample-done a.kind a.pixels.now a.out.now (omega arith) (c.all_typed.ensures c.if-not-all_typed.false) (omega arith) _ _
    c.write_octets.ensures.value c.write_octets.ensures.out_after).0

pub returns-clause-output : goal.returns-clause-output
unfolding Packed
returns-clause-output c =
    let a = c.args in
    (ample-done a.kind a.pixels.now a.out.now (omega arith) (c.all_typed.ensures c.if-not-all_typed.false) (omega arith) _ _
    c.write_octets.ensures.value c.write_octets.ensures.out_after).1
