use Rattle.std.proofs.Common.{◌≡◌, ◌^◌, ◌<◌, Bool, true, false, ℤ, ◌-ℤ◌, length, ap, ap₂, sym, subst, ◌∙◌, arith, to_z-of_z, w64, to_z, of_z}
use Rattle.std.specs.Prelude.{Some}
use lib.Signed.{mag, lt_z}
use Rattle.cbf_pixels.specs.Pixels.{within, pack_difference}
use Rattle.cbf_pixels.proofs.Integers.{mag-sub}
use Rattle.cbf_measure.proofs.MeasureLaws.{one_outside, one_inside, below-least, above-greatest, in_bounds, typed-range, typed-other}
use Rattle.cbf_measure.proofs.MeasureLaws.{held-least, held-greatest}
use Rattle.cbf_measure.proofs.measure.pixel_size.Goals as goal
use Rattle.cbf_measure.proofs.measure.pixel_size.Goals.{then-z-bounds-via-then-z-bounds, then-z-bounds-via-else-z-bounds+then-bounds-z}

-- a test of two numbers, as the machine holds them
tested : (t : Bool) {a b : ℤ} → to_z w64 (of_z w64 a) ≡ a → to_z w64 (of_z w64 b) ≡ b → lt_z (to_z w64 (of_z w64 a)) (to_z w64 (of_z w64 b)) ≡ t → lt_z a b ≡ t
tested t f g e = sym (ap₂ lt_z f g) ∙ e

inside : (c : goal.Else-bounds-z) → within c.args.bounds.least c.args.bounds.greatest c.args.z ≡ true
inside c =
    let z = to_z-of_z {w = w64} c.ranges.z in
    in_bounds _ _ _ (tested false z (held-least c.requires) c.if-z-bounds.false) (tested false (held-greatest c.requires) z c.if-bounds-z.false)

pub returns-then-z-bounds-clause-size : goal.returns-then-z-bounds-clause-size
returns-then-z-bounds-clause-size c =
    let z = to_z-of_z {w = w64} c.ranges.z in
    elim c.then-z-bounds.branch [
      | then-z-bounds-via-then-z-bounds w ↦
          sym (one_outside _ _ _ _ (below-least _ _ _ (tested true z (held-least c.requires) w.if-z-bounds.true)))
      | then-z-bounds-via-else-z-bounds+then-bounds-z w ↦
          sym (one_outside _ _ _ _ (above-greatest _ _ _ (tested true (held-greatest c.requires) z w.if-bounds-z.true)))
    ]

-- the difference, as the machine computes it
difference : (c : goal.Else-bounds-z) → to_z w64 (of_z w64 c.args.z) -ℤ to_z w64 (of_z w64 c.args.last) ≡ c.args.z -ℤ c.args.last
difference c = ap₂ ◌-ℤ◌ (to_z-of_z {w = w64} c.ranges.z) (to_z-of_z {w = w64} c.ranges.last)

pub overflow_sub-z : goal.overflow_sub-z
overflow_sub-z c =
    let T = c.requires in
    let m = mag-sub c.args.z c.args.last (typed-range (typed-other c.args.z T (inside c))) (typed-range T) in
    record { sfits = subst (λ (z : ℤ). mag z < 2 ^ 63) (sym (difference c)) (omega (arith, m)) }

pub returns-clause-size : goal.returns-clause-size
returns-clause-size c =
    ap Some (c.difference_size.ensures.0
    ∙ ap (λ (d : ℤ). length (pack_difference d)) (to_z-of_z {w = w64} (overflow_sub-z c.before) ∙ difference c.before))
    ∙ sym (one_inside _ _ _ _ (inside c.before))
