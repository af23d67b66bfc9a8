-- The tests tell the form of the difference's octets.
use Rattle.std.proofs.Common.{◌++◌, ap, ◌∙◌, List, ℕ, arith, to_z-of_z, w64}
use lib.Seq.{sets}
use Rattle.cbf_pixels.specs.Octets.{octets, bits}
use Rattle.cbf_pixels.proofs.Forms.{narrow-true, narrow-false, form1, form2, form4, form8}
use Rattle.cbf_pack.proofs.WriteLaws.{form-room, form-done, octets-1, octets-2, octets-4}
use Rattle.cbf_pack.proofs.write.put_difference.Goals as goal

pub put-requires : goal.put-requires
put-requires c =
    let a = c.args in
    let h = narrow-true a.d 128 c.narrow.result c.ranges.d c.narrow.ensures c.if-narrow.true in
    (omega arith, form-room a.at _ (form1 a.d h) c.requires)

pub returns-then-narrow : goal.returns-then-narrow
returns-then-narrow c =
    let a = c.args in
    let h = narrow-true a.d 128 c.narrow.result c.ranges.d c.narrow.ensures c.if-narrow.true in
    let n = c.bits_of_far-n.ensures ∙ ap (bits 8) (to_z-of_z {w = w64} c.ranges.d) in
    form-done a.out.now a.at _ (form1 a.d h) (c.put.ensures ∙ ap (sets a.out.now a.at) (ap (octets 1) n ∙ octets-1 a.d (omega arith)))

pub put_3-requires : goal.put_3-requires
put_3-requires c =
    let a = c.args in
    let g = narrow-false a.d 128 c.narrow.result c.ranges.d c.narrow.ensures c.if-narrow.false in
    let h = narrow-true a.d 32768 c.narrow-else-narrow.result c.ranges.d c.narrow-else-narrow.ensures c.if-narrow-2.true in
    form-room a.at _ (form2 a.d g h) c.requires

pub returns-then-narrow-2 : goal.returns-then-narrow-2
returns-then-narrow-2 c =
    let a = c.args in
    let g = narrow-false a.d 128 c.narrow.result c.ranges.d c.narrow.ensures c.if-narrow.false in
    let h = narrow-true a.d 32768 c.narrow-else-narrow.result c.ranges.d c.narrow-else-narrow.ensures c.if-narrow-2.true in
    let n = c.bits_of_far-n.ensures ∙ ap (bits 8) (to_z-of_z {w = w64} c.ranges.d) in
    form-done a.out.now a.at _ (form2 a.d g h)
    (c.put_3.ensures ∙ ap (λ (l : List ℕ). sets a.out.now a.at (octets 1 128 ++ l)) (ap (octets 2) n ∙ octets-2 a.d (omega arith)))

pub put_7-requires : goal.put_7-requires
put_7-requires c =
    let a = c.args in
    let g = narrow-false a.d 32768 c.narrow-else-narrow.result c.ranges.d c.narrow-else-narrow.ensures c.if-narrow-2.false in
    let h = narrow-true a.d 2147483648 c.narrow-else-narrow-2.result c.ranges.d c.narrow-else-narrow-2.ensures c.if-narrow-3.true in
    form-room a.at _ (form4 a.d g h) c.requires

pub returns-then-narrow-3 : goal.returns-then-narrow-3
returns-then-narrow-3 c =
    let a = c.args in
    let g = narrow-false a.d 32768 c.narrow-else-narrow.result c.ranges.d c.narrow-else-narrow.ensures c.if-narrow-2.false in
    let h = narrow-true a.d 2147483648 c.narrow-else-narrow-2.result c.ranges.d c.narrow-else-narrow-2.ensures c.if-narrow-3.true in
    let n = c.bits_of_far-n.ensures ∙ ap (bits 8) (to_z-of_z {w = w64} c.ranges.d) in
    form-done a.out.now a.at _ (form4 a.d g h)
    (c.put_7.ensures ∙ ap (λ (l : List ℕ). sets a.out.now a.at (octets 1 128 ++ octets 2 32768 ++ l)) (ap (octets 4) n ∙ octets-4 a.d (omega arith)))

pub put_15-requires : goal.put_15-requires
put_15-requires c =
    let a = c.args in
    let g = narrow-false a.d 2147483648 c.narrow-else-narrow-2.result c.ranges.d c.narrow-else-narrow-2.ensures c.if-narrow-3.false in
    form-room a.at _ (form8 a.d g) c.requires

pub returns-else-narrow-3 : goal.returns-else-narrow-3
returns-else-narrow-3 c =
    let a = c.args in
    let g = narrow-false a.d 2147483648 c.narrow-else-narrow-2.result c.ranges.d c.narrow-else-narrow-2.ensures c.if-narrow-3.false in
    let n = c.bits_of_far-n.ensures ∙ ap (bits 8) (to_z-of_z {w = w64} c.ranges.d) in
    form-done a.out.now a.at _ (form8 a.d g)
    (c.put_15.ensures ∙ ap (λ (n : ℕ). sets a.out.now a.at (octets 1 128 ++ octets 2 32768 ++ octets 4 2147483648 ++ octets 8 n)) n)
