-- The refusals are not named here: a changed one is refused for what it says, and not for its name.
use Rattle.std.proofs.Common.{arith}
use Rattle.cbf_pack.proofs.PackingLaws.{Packed, pack-outside, pack-no-room, may_write, pack-done}
use Rattle.cbf_pack.proofs.packing.pack_counted.Goals as goal

pub returns-in_default-clause-answer : goal.returns-in_default-clause-answer
unfolding Packed
returns-in_default-clause-answer c =
    let u = pack-outside c.args.kind c.args.pixels.now c.args.out.now c.requires c.in_default.ensures in
    let e = u.0 in
    grind arith

pub returns-in_default-clause-output : goal.returns-in_default-clause-output
unfolding Packed
returns-in_default-clause-output c = (pack-outside c.args.kind c.args.pixels.now c.args.out.now c.requires c.in_default.ensures).1

pub returns-then-out-n-clause-answer : goal.returns-then-out-n-clause-answer
unfolding Packed
returns-then-out-n-clause-answer c =
    let u = pack-no-room c.args.kind c.args.pixels.now c.args.out.now c.in-Some.n c.requires c.in-Some.ensures c.if-out-n.true in
    let e = u.0 in
    grind arith

pub returns-then-out-n-clause-output : goal.returns-then-out-n-clause-output
unfolding Packed
returns-then-out-n-clause-output c =
    (pack-no-room c.args.kind c.args.pixels.now c.args.out.now c.in-Some.n c.requires c.in-Some.ensures c.if-out-n.true).1

pub write_octets-requires : goal.write_octets-requires
write_octets-requires c = may_write c.args.kind c.args.pixels.now c.args.out.now c.in-Some.n c.requires c.in-Some.ensures c.if-out-n.false

pub returns-clause-answer : goal.returns-clause-answer
unfolding Packed
returns-clause-answer c =
    (pack-done c.args.kind c.args.pixels.now c.args.out.now c.in-Some.n c.requires c.in-Some.ensures _ c.if-out-n.false c.write_octets.ensures.out_after).0

pub returns-clause-output : goal.returns-clause-output
unfolding Packed
returns-clause-output c =
    (pack-done c.args.kind c.args.pixels.now c.args.out.now c.in-Some.n c.requires c.in-Some.ensures _ c.if-out-n.false c.write_octets.ensures.out_after).1
