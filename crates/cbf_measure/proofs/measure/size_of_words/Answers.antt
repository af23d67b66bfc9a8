use Rattle.std.proofs.Common.{◌≡◌, ℕ, ◌+◌, ◌*◌, List, get_or, ℤ, pos, ◌-ℤ◌, nat_abs, ap, ap₂, ◌∙◌, subst, arith}
use Rattle.cbf_measure.specs.Measure.{steps_size, far_steps}
use Rattle.cbf_measure.proofs.RangeLaws.{steps-none, steps-turn, far_none, far-more, far-or, held-32}
use Rattle.cbf_measure.proofs.measure.size_of_words.Goals as goal

pub loop-j-init : goal.loop-j-init
loop-j-init c =
    let f = far_none c.args.words.now in
    record { one_few = omega arith; two_few = omega arith; counted = omega (arith, steps-none c.args.words.now 0); near = λ h. f }

pub loop-j-preserved : goal.loop-j-preserved
loop-j-preserved c =
    let l = c.loop-j in
    let w = c.args.words.now in
    let m = c.abs_diff-m.result in
    let gap = c.abs_diff-m.ensures
    ∙ ap₂ (λ y z. nat_abs (y -ℤ z)) (held-32 (get_or w (l.j + 1) (pos 0)) (omega arith)) (held-32 (get_or w l.j (pos 0)) (omega arith)) in
    let t = steps-turn w l.j m l.one l.two (far_steps w l.j) (omega arith) gap l.invariant.counted in
    let f = far-more w l.j m gap in
    let a = c.beyond-one.ensures in
    let b = c.beyond-two.ensures in
    let none = far-or (far_steps w l.j) m l.all l.invariant.near in
    record {
      one_few = omega (arith, a.1, l.invariant.one_few);
      two_few = omega (arith, b.1, l.invariant.two_few);
      counted = omega (arith, a.0, b.0);
      near = λ h. f ∙ none h;
    }

-- what the loop leaves
done : (w : List ℤ) (j one two : ℕ) → j ≡ 128 → steps_size w 0 j ≡ j + 2 * one + 4 * two + 8 * far_steps w j
    → steps_size w 0 128 ≡ 128 + 2 * one + 4 * two + 8 * far_steps w 128
done w j one two e s = subst (λ (j : ℕ). steps_size w 0 j ≡ j + 2 * one + 4 * two + 8 * far_steps w j) e s

pub returns-then-all-lt2147483648 : goal.returns-then-all-lt2147483648
returns-then-all-lt2147483648 c =
    let l = c.loop-j in
    let e : l.j ≡ 128 = omega arith in
    let f = ap (far_steps c.args.words.now) e in
    let z = l.invariant.near c.if-all-lt2147483648.true in
    let d = done c.args.words.now l.j l.one l.two e l.invariant.counted in
    (omega arith, omega (arith, l.invariant.one_few, l.invariant.two_few))

pub returns : goal.returns
returns c =
    let l = c.loop-j in
    let d = done c.args.words.now l.j l.one l.two (omega arith) l.invariant.counted in
    (omega (arith, c.count_far.ensures.0), omega (arith, l.invariant.one_few, l.invariant.two_few, c.count_far.ensures.1))
