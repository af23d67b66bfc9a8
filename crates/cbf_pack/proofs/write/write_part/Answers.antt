use Rattle.std.proofs.Common.{◌+◌, refl, arith}
use Rattle.cbf_pack.proofs.WriteLaws.{writable-word, slice-writable, slice-long}
use Rattle.cbf_pack.proofs.DenseLaws.{writable-few}
use Rattle.cbf_pack.proofs.write.write_part.Goals as goal

pub write_dense-requires : goal.write_dense-requires
write_dense-requires c =
    let l = c.dense.ensures c.if-dense.true in
    (c.requires.0, writable-word (writable-few c.requires.3 (c.args.n + 7) (omega arith)))

pub write_few-requires : goal.write_few-requires
write_few-requires c =
    let a = c.args in
    let w = writable-word (writable-few c.requires.3 a.n (omega arith)) in
    (slice-writable a.left.now 0 a.n refl w.pixels w, omega (arith, slice-long a.left.now 0 a.n refl w.pixels, c.requires.1))
