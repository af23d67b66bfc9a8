use Rattle.std.proofs.Common.{◌≡◌, ◌<◌, ◌≤◌, ℕ, ℤ, true, false, ltb, nat_abs, arith, sym, subst, to_z-of_z, w64, SFits, to_z, of_z, ltb-true, ltb-false}
use Rattle.cbf_pixels.proofs.Forms.{form1, form2, form4, form8, form-size}
use Rattle.cbf_measure.proofs.measure.difference_size.Goals as goal

-- what a test of the difference, as the machine holds it, says of it
fits : (d : ℤ) (h : ℕ) → SFits w64 d → true ≡ ltb (nat_abs (to_z w64 (of_z w64 d))) h → nat_abs d < h
fits d h f e = ltb-true (nat_abs d) h (subst (λ (z : ℤ). ltb (nat_abs z) h ≡ true) (to_z-of_z {w = w64} f) (sym e))

beyond : (d : ℤ) (h : ℕ) → SFits w64 d → false ≡ ltb (nat_abs (to_z w64 (of_z w64 d))) h → h ≤ nat_abs d
beyond d h f e = ltb-false (nat_abs d) h (subst (λ (z : ℤ). ltb (nat_abs z) h ≡ false) (to_z-of_z {w = w64} f) (sym e))

pub returns-then-narrow-2 : goal.returns-then-narrow-2
returns-then-narrow-2 c =
    let d = c.args.d in
    (form-size (form1 d (fits d 128 c.ranges.d c.if-narrow-2.ensures)), omega arith, omega arith)

pub returns-else-narrow-2 : goal.returns-else-narrow-2
returns-else-narrow-2 c =
    let d = c.args.d in
    let f = c.ranges.d in
    (form-size (form2 d (beyond d 128 f c.if-narrow-2.ensures) (fits d 32768 f c.if-narrow.ensures)), omega arith, omega arith)

pub returns-then-narrow-3 : goal.returns-then-narrow-3
returns-then-narrow-3 c =
    let d = c.args.d in
    let f = c.ranges.d in
    (form-size (form4 d (beyond d 32768 f c.if-narrow.ensures) (fits d 2147483648 f c.if-narrow-3.ensures)), omega arith, omega arith)

pub returns-else-narrow-3 : goal.returns-else-narrow-3
returns-else-narrow-3 c =
    let d = c.args.d in
    (form-size (form8 d (beyond d 2147483648 c.ranges.d c.if-narrow-3.ensures)), omega arith, omega arith)
