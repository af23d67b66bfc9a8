use mathlib.Core.Path.{sym, ◌∙◌}
use native.Mathlib.Omega.{arith}
use Rattle.cbf_pixels.specs.declared.Compression.TheVariants.{ByteOffset}
use Rattle.cbf_pixels.specs.PixelCalls.{unpack_pixels}
use Rattle.cbf_unpack.proofs.UnpackingLaws.{Unpacked, unpack-bad, unpack-no-room, unpack-done}
use Rattle.cbf_unpack.proofs.unpacking.unpack_byte_offset.Goals as goal

pub returns-then-not-validate : goal.returns-then-not-validate
unfolding Unpacked unpack_pixels
returns-then-not-validate c =
    let a = c.args in
    let e = sym c.validate.ensures ∙ c.if-not-validate.true in
    let u = unpack-bad ByteOffset a.kind a.count a.octets.now a.out.now c.at.ensures c.requires e in
    record { answer = u.0; output = u.1 }

pub returns-then-out-count : goal.returns-then-out-count
unfolding Unpacked unpack_pixels
returns-then-out-count c =
    let a = c.args in
    let e = sym c.validate.ensures ∙ c.if-not-validate.false in
    let u = unpack-no-room ByteOffset a.kind a.count a.octets.now a.out.now c.at-then-out-count.ensures c.requires e (omega arith) in
    record { answer = u.0; output = u.1 }

pub returns : goal.returns
unfolding Unpacked unpack_pixels
returns c =
    let a = c.args in
    let e = sym c.validate.ensures ∙ c.if-not-validate.false in
    let u = unpack-done ByteOffset a.kind a.count a.octets.now a.out.now _ c.requires e (omega arith) c.fill.ensures in
    record { answer = u.0; output = u.1 }
