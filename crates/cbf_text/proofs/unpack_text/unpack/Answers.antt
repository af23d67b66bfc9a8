-- What is written was found to unpack, and the first pass leaves the output as it was.
use native.Mathlib.Omega.{arith}
use mathlib.Core.Path.{refl, sym, ap, ◌∙◌}
use mathlib.Core.List.{List, ◌++◌}
use lib.ListN.{length, take, drop}
use lib.IntN.{ℤ}
use Rattle.cbf_pixels.specs.PixelCalls.{unpack_pixels, pixels_of}
use Rattle.cbf_pixels.specs.Pixels.{unpack_byte_offset}
use Rattle.cbf_pixels.specs.declared.Compression.TheVariants.{Uncompressed, ByteOffset}
use Rattle.cbf_unpack.proofs.UnpackingLaws.{Unpacked, unpack-bad, unpack-no-room, unpack-done, uncompressed-some}
use Rattle.cbf_letters.specs.Octets.{text_octets}
use Rattle.cbf_text.proofs.TextWindowLaws.{all-octets}
use Rattle.cbf_text.proofs.unpack_text.unpack.Goals as goal

pub returns-then-out-count : goal.returns-then-out-count
unfolding Unpacked
returns-then-out-count c =
    let a = c.args in
    let P = c.requires in
    let os = text_octets a.file.now a.from a.to in
    let e = uncompressed-some a.kind a.count _ (take a.size os) refl (all-octets a.kind a.count a.size os (P.5 c.in-Uncompressed.is) P.3) in
    let u = unpack-no-room Uncompressed a.kind a.count (take a.size os) a.out.now c.at.ensures P.4 e (omega arith) in
    record { answer = rw c.in-Uncompressed.is u.0; output = rw c.in-Uncompressed.is u.1 }

pub returns-else-out-count : goal.returns-else-out-count
unfolding Unpacked unpack_pixels
returns-else-out-count c =
    let a = c.args in
    let P = c.requires in
    let os = text_octets a.file.now a.from a.to in
    let e = uncompressed-some a.kind a.count _ (take a.size os) refl (all-octets a.kind a.count a.size os (P.5 c.in-Uncompressed.is) P.3) in
    let u = unpack-done Uncompressed a.kind a.count (take a.size os) a.out.now _ P.4 e (omega arith) c.unpack_uncompressed.ensures in
    record { answer = rw c.in-Uncompressed.is u.0; output = rw c.in-Uncompressed.is u.1 }

pub returns-then-not-pass : goal.returns-then-not-pass
unfolding Unpacked unpack_pixels
returns-then-not-pass c =
    let a = c.args in
    let E = c.pass.ensures in
    let os = text_octets a.file.now a.from a.to in
    let u = unpack-bad ByteOffset a.kind a.count (take a.size os) a.out.now c.at-then-not-pass.ensures c.requires.4 (sym E.value ∙ c.if-not-pass.true) in
    record { answer = rw c.in-ByteOffset.is u.0; output = rw c.in-ByteOffset.is (E.out_after ∙ u.1) }

pub returns-then-out-count-2 : goal.returns-then-out-count-2
unfolding Unpacked unpack_pixels
returns-then-out-count-2 c =
    let a = c.args in
    let E = c.pass.ensures in
    let os = text_octets a.file.now a.from a.to in
    let u = unpack-no-room ByteOffset a.kind a.count (take a.size os) a.out.now c.at-then-out-count-2.ensures c.requires.4
    (sym E.value ∙ c.if-not-pass.false) (omega (arith, ap length E.out_after)) in
    record { answer = rw c.in-ByteOffset.is u.0; output = rw c.in-ByteOffset.is (E.out_after ∙ u.1) }

pub returns-else-out-count-2 : goal.returns-else-out-count-2
unfolding Unpacked unpack_pixels
returns-else-out-count-2 c =
    let a = c.args in
    let E = c.pass.ensures in
    let os = take a.size (text_octets a.file.now a.from a.to) in
    let wrote = c.pass-in-ByteOffset.ensures.out_after ∙ ap (λ (out : List ℤ). pixels_of (unpack_byte_offset a.kind a.count os) ++ drop a.count out) E.out_after in
    let u = unpack-done ByteOffset a.kind a.count os a.out.now _ c.requires.4 (sym E.value ∙ c.if-not-pass.false) (omega (arith, ap length E.out_after)) wrote in
    record { answer = rw c.in-ByteOffset.is u.0; output = rw c.in-ByteOffset.is u.1 }
