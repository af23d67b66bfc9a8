use native.Mathlib.Omega.{arith}
use Rattle.cbf_pixels.specs.declared.Compression.TheVariants.{Uncompressed}
use Rattle.cbf_pixels.specs.PixelCalls.{unpack_pixels}
use Rattle.cbf_unpack.proofs.UnpackingLaws.{Unpacked, unpack-bad, unpack-no-room, unpack-done}
use Rattle.cbf_unpack.proofs.UnpackingLaws.{uncompressed-some, uncompressed-none}
use Rattle.cbf_unpack.proofs.unpacking.unpack_uncompressed.Goals as goal

pub returns-then-octets-octets_per : goal.returns-then-octets-octets_per
unfolding Unpacked unpack_pixels
returns-then-octets-octets_per c =
    let a = c.args in
    let e = uncompressed-none a.kind a.count _ a.octets.now c.octets_per.ensures.0 c.if-octets-octets_per.true in
    let u = unpack-bad Uncompressed a.kind a.count a.octets.now a.out.now c.at.ensures c.requires e in
    record { answer = u.0; output = u.1 }

pub returns-then-out-count : goal.returns-then-out-count
unfolding Unpacked unpack_pixels
returns-then-out-count c =
    let a = c.args in
    let e = uncompressed-some a.kind a.count _ a.octets.now c.octets_per.ensures.0 c.if-octets-octets_per.false in
    let u = unpack-no-room Uncompressed a.kind a.count a.octets.now a.out.now c.at-then-out-count.ensures c.requires e (omega arith) in
    record { answer = u.0; output = u.1 }

pub returns : goal.returns
unfolding Unpacked unpack_pixels
returns c =
    let a = c.args in
    let e = uncompressed-some a.kind a.count _ a.octets.now c.octets_per.ensures.0 c.if-octets-octets_per.false in
    let u = unpack-done Uncompressed a.kind a.count a.octets.now a.out.now _ c.requires e (omega arith) c.fill.ensures in
    record { answer = u.0; output = u.1 }
