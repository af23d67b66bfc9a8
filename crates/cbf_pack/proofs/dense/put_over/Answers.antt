use Rattle.std.proofs.Common.{ℕ, ◌+◌, ◌≤◌, length, ◌++◌, ℤ, pos, ◌+ℤ◌, ap, ◌∙◌, arith, to_z-of_z, w64, to_z, of_z}
use lib.Seq.{sets}
use Rattle.cbf_pixels.specs.Octets.{octets, bits}
use Rattle.cbf_pixels.proofs.Forms.{narrow-true, narrow-false, form8}
use Rattle.cbf_measure.specs.Measure.{over}
use Rattle.cbf_measure.proofs.RangeLaws.{over-few}
use Rattle.cbf_pack.proofs.WriteLaws.{form-room, form-done}
use Rattle.cbf_pack.proofs.DenseLaws.{form_is, stored, raised_is, put-stored, put-far}
use Rattle.cbf_pack.proofs.dense.put_over.Goals as goal

pub put_15-requires : goal.put_15-requires
put_15-requires c =
    let d = c.args.d in
    form-room c.args.at _ (form8 d (narrow-false d 2147483648 c.narrow.result c.ranges.d c.narrow.ensures c.if-not-narrow.true)) c.requires.2

pub returns-then-not-narrow : goal.returns-then-not-narrow
returns-then-not-narrow c =
    let a = c.args in
    let out = a.out.now in
    let f = form8 a.d (narrow-false a.d 2147483648 c.narrow.result c.ranges.d c.narrow.ensures c.if-not-narrow.true) in
    let w = c.bits_of_far.ensures ∙ ap (bits 8) (to_z-of_z {w = w64} c.ranges.d) in
    put-far a.d out a.at _ _ (omega (arith, ap length f.is, f.long))
    (form-done out a.at _ f
    (c.put_15.ensures ∙ ap (λ (n : ℕ). sets out a.at (octets 1 128 ++ octets 2 32768 ++ octets 4 2147483648 ++ octets 8 n)) w))

pub overflow_add-c : goal.overflow_add-c
overflow_add-c c =
    let d = to_z w64 (of_z w64 c.args.d) in
    omega (arith, over-few d 128, over-few d 32768)

pub offset_bounds-forms-c : goal.offset_bounds-forms-c
offset_bounds-forms-c c =
    let d = to_z w64 (of_z w64 c.args.d) in
    omega (arith, over-few d 128, over-few d 32768)

pub bounds-forms-c : goal.bounds-forms-c
bounds-forms-c c =
    let d = to_z w64 (of_z w64 c.args.d) in
    omega (arith, over-few d 128, over-few d 32768)

pub offset_bounds-forms-c-2 : goal.offset_bounds-forms-c-2
offset_bounds-forms-c-2 c =
    let d = to_z w64 (of_z w64 c.args.d) in
    omega (arith, over-few d 128, over-few d 32768)

pub bounds-forms-c-2 : goal.bounds-forms-c-2
bounds-forms-c-2 c =
    let d = to_z w64 (of_z w64 c.args.d) in
    omega (arith, over-few d 128, over-few d 32768)

pub offset_bounds-forms-c-3 : goal.offset_bounds-forms-c-3
offset_bounds-forms-c-3 c =
    let d = to_z w64 (of_z w64 c.args.d) in
    omega (arith, over-few d 128, over-few d 32768)

pub bounds-forms-c-3 : goal.bounds-forms-c-3
bounds-forms-c-3 c =
    let d = to_z w64 (of_z w64 c.args.d) in
    omega (arith, over-few d 128, over-few d 32768)

pub returns : goal.returns
returns c =
    let a = c.args in
    let d = a.d in
    let held = to_z-of_z {w = w64} c.ranges.d in
    let near = narrow-true d 2147483648 c.narrow.result c.ranges.d c.narrow.ensures c.if-not-narrow.false in
    let r = c.raised in
    let n = raised_is d r.result near (r.ensures.0 ∙ ap (λ (z : ℤ). z +ℤ pos 4294967296) held) in
    let x = c.beyond.ensures ∙ ap (λ (z : ℤ). over z 128) held in
    let y = c.beyond-2.ensures ∙ ap (λ (z : ℤ). over z 32768) held in
    let k = c.beyond.result + c.beyond-2.result in
    let few : k ≤ 2 = omega (arith, over-few d 128, over-few d 32768) in
    let f = form_is a.forms.now r.result k c.requires.0 few r.ensures.1 in
    put-stored a.out.now a.at _ _ (stored d r.result k near n (omega arith))
    (c.put.ensures ∙ ap (λ (m : ℕ). sets a.out.now a.at (octets 8 m)) f.1) (ap (λ (m : ℕ). a.at + m) f.3)
