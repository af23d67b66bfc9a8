use Rattle.std.proofs.Common.{ℕ, ◌+◌, ◌<◌, List, get_or, ℤ, pos, ◌-ℤ◌, ◌≡◌, nat_abs, ap, sym, refl, ◌∙◌, subst, arith, w64, to_z, of_z}
use lib.Seq.{sets}
use Rattle.cbf_pixels.specs.Octets.{octets}
use Rattle.cbf_pixels.specs.Pixels.{pack_from}
use Rattle.cbf_pixels.proofs.Forms.{form1}
use Rattle.cbf_pack.proofs.WriteLaws.{gap, gap-fits, gap_word, octets-1, form-done, in-window-word, window-writable, window-as, part-all}
use Rattle.cbf_pack.proofs.WriteLaws.{upto-none, upto_all, upto-writable, upto-one, upto-near}
use Rattle.cbf_pack.proofs.write.write_block.Goals as goal

pub loop-j-init : goal.loop-j-init
loop-j-init c = upto-none refl (omega arith)

pub overflow_sub-z : goal.overflow_sub-z
overflow_sub-z c =
    let v = in-window-word (window-as c.requires.0 32 c.requires.1) in
    let w = window-writable v c.args.out.now c.args.at c.requires.2 in
    gap-fits _ (upto-writable w c.loop-j.invariant 1 c.loop-j.j (omega arith) (omega arith))

pub loop-j-preserved : goal.loop-j-preserved
loop-j-preserved c =
    let a = c.args in
    let l = c.loop-j in
    let v = in-window-word (window-as c.requires.0 32 c.requires.1) in
    let w = window-writable v a.out.now a.at c.requires.2 in
    let prev = to_z w64 l.before-bits in
    let d = to_z w64 (of_z w64 (gap a.block.now l.j prev)) in
    let g = upto-near v l.invariant (omega arith) in
    let near : nat_abs d < 128 = subst (λ (z : ℤ). nat_abs z < 128) (sym (gap_word prev (upto-writable w l.invariant 1 l.j (omega arith) (omega arith))))
    (let z : 0 + l.j ≡ l.j = omega arith in subst (λ (i : ℕ). nat_abs (get_or a.block.now i (pos 0) -ℤ prev) < 128) z g) in
    let p = form-done l.out (a.at + l.j) c.put.new.out (form1 d near)
    (c.put.ensures ∙ ap (sets l.out (a.at + l.j)) (ap (octets 1) c.bits_of_far.ensures ∙ octets-1 d (omega arith))) in
    upto-one w l.invariant l.j (omega arith) (omega arith) (omega (arith, p.0), p.1)

pub returns : goal.returns
returns c =
    (upto_all c.loop-j.invariant c.requires.0.before (omega arith)).octets
    ∙ ap (λ (l : List ℤ). sets c.args.out.now c.args.at (pack_from c.args.last l)) (part-all c.args.block.now 32 c.requires.1)
