use Rattle.std.proofs.Common.{ℕ, ◌+◌, ◌^◌, ◌<◌, ◌≤◌, get_or, ℤ, pos, sym, ap, ◌∙◌, subst, arith, to_z-of_z, w64, to_z, of_z, below_more, ltb-true}
use lib.Signed.{mag}
use lib.Bits.{bit_or, bit_xor}
use Rattle.cbf_pixels.proofs.Integers.{held}
use Rattle.cbf_measure.proofs.WindowLaws.{or-more, xor-window, word-window}
use Rattle.cbf_measure.proofs.window.same_window.Goals as goal

pub loop-j-preserved : goal.loop-j-preserved
loop-j-preserved c =
    let a = c.args in
    let l = c.loop-j in
    let last = of_z w64 (to_z w64 (of_z w64 a.last)) in
    let g : mag (get_or a.block.now l.j (pos 0)) < 2 ^ 63 = omega arith in
    let e = c.unlike-all.ensures ∙ ap (λ (z : ℤ). bit_xor (of_z w64 z) last) (held (get_or a.block.now l.j (pos 0)) g) in (
      below_more (λ (i : ℕ). mag (get_or a.block.now i (pos 0)) < 2 ^ 63) l.j l.invariant.0 g,
      subst (λ (x : ℕ). (i : ℕ) → i < l.j + 1 → bit_xor (of_z w64 (get_or a.block.now i (pos 0))) last ≤ bit_or l.all x) (sym e)
          (or-more (λ (i : ℕ). bit_xor (of_z w64 (get_or a.block.now i (pos 0))) last) l.j l.all l.invariant.1),
    )

pub returns : goal.returns
returns c = λ e j h.
    let a = c.args in
    let l = c.loop-j in
    let n = c.loop-j-test.false in
    let y = get_or a.block.now j (pos 0) in
    let w = ltb-true l.all 128 e in
    let x = subst (λ (z : ℤ). bit_xor (of_z w64 y) (of_z w64 z) < 128) (to_z-of_z {w = w64} c.ranges.last) (omega (arith, l.invariant.1 j (omega arith))) in
    word-window y a.last (l.invariant.0 j (omega arith)) c.ranges.last.sfits (xor-window (of_z w64 y) (of_z w64 a.last) x)
