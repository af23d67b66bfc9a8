use Rattle.std.proofs.Common.{ℕ, ◌+◌, ◌-◌, ◌*◌, ◌≡◌, List, length, get_or, ℤ, pos, ap, refl, ◌∙◌, subst, arith, w64, to_z, of_z}
use lib.Seq.{sets}
use Rattle.cbf_pixels.specs.Pixels.{pack_from}
use Rattle.cbf_pack.proofs.WriteLaws.{wrote-length, in-window-word, window-writable, window-wrote, window-as, part-all}
use Rattle.cbf_pack.proofs.WriteLaws.{InWindow, slice-window, slice-long, slice-octets, Upto, upto-none, upto_all, upto-more, upto-window}
use Rattle.cbf_pack.proofs.write.write_run.Goals as goal

pub loop-b-init : goal.loop-b-init
loop-b-init c = upto-none refl (omega arith)

pub write_block-requires : goal.write_block-requires
write_block-requires c =
    let u = c.loop-b.invariant in
    let j = 32 * c.loop-b.b in
    let v = in-window-word (window-as c.requires.0 (length c.args.run.now) refl) in
    let z : 0 + j ≡ j = omega arith in
    let b = subst (λ (i : ℕ). InWindow c.args.run.now i (to_z w64 c.loop-b.before-bits) 32) z (upto-window v u 32 (omega arith) refl) in
    let f = slice-window c.args.run.now j (j + 32 - j) (omega arith) b.run.inside b in
    (f, slice-long c.args.run.now j (j + 32 - j) (omega arith) b.run.inside, omega (arith, c.requires.1, wrote-length u.wrote))

pub loop-b-preserved : goal.loop-b-preserved
loop-b-preserved c =
    let a = c.args in
    let u = c.loop-b.invariant in
    let j = 32 * c.loop-b.b in
    let v = in-window-word (window-as c.requires.0 (length a.run.now) refl) in
    let w = window-writable v a.out.now a.at c.requires.1 in
    let z : 0 + j ≡ j = omega arith in
    let b = subst (λ (i : ℕ). InWindow a.run.now i (to_z w64 c.loop-b.before-bits) 32) z (upto-window v u 32 (omega arith) refl) in
    let q : j + 32 ≡ 32 * (c.loop-b.b + 1) = omega arith in
    subst (λ (m : ℕ). Upto a.run.now 0 (length a.run.now) (to_z w64 (of_z w64 a.last)) a.out.now a.at m c.write_block.new.out (to_z w64 (of_z w64 (get_or a.run.now (j + 31) (pos 0)))) (a.at + m)) q
    (upto-more w u 32 j (omega arith) (omega arith) (j + 31) (omega arith) (omega arith)
    (window-wrote b (slice-octets a.run.now j (j + 32 - j) (omega arith) b.run.inside _ _ _ _ c.write_block.ensures) (omega arith)))

pub returns : goal.returns
returns c =
    let a = c.args in
    (upto_all c.loop-b.invariant c.requires.0.before (omega (arith, c.requires.0.run.blocks))).octets
    ∙ ap (λ (l : List ℤ). sets a.out.now a.at (pack_from a.last l)) (part-all a.run.now (length a.run.now) refl)
