use Prim.Native.Nat.{◌+◌, ◌-◌}
use native.Mathlib.Omega.{arith}
use mathlib.Core.Path.{refl}
use mathlib.Core.List.{[], ◌∷◌}
use borrow.Author.Rules.{rules}
use lib.ListN.{length, take, drop}
use borrow.Author.Tests.{leb-true, leb-false}
use Rattle.cbf_pixels.specs.Octets.{number, half}
use Rattle.cbf_octets.proofs.DifferenceLaws.{Tries, Number, one-octet, tries-first, tries-next, tries-here}
use Rattle.cbf_octets.proofs.DifferenceLaws.{tries-last, tries-cut, told-got, told-cut}
use Rattle.cbf_octets.proofs.difference.whole.Statement.{statement}
use Rattle.cbf_octets.proofs.difference.whole.Tie as tie

-- the widths that are left after an escape
second : (c : tie.Else-octets-i) → Tries c.args.octets.now
    c.args.i (2 ∷ 4 ∷ 8 ∷ []) (c.args.i + 1)
unfolding half
second c = let a = c.args in tries-next (one-octet a.octets.now a.i
    (omega arith)) (tries-first a.octets.now a.i) c.if-octets-i.false

number2 : (c : tie.After-le2) → Number c.args.octets.now
    (c.args.i + 1) 2 c.le2.result
    (c.args.i + 3)
number2 c = record { is = c.le2.ensures.0; after = omega arith; inside = omega arith }

third : (c : tie.Else-le2-ne32768) → Tries c.args.octets.now
    c.args.i (4 ∷ 8 ∷ [])
    (c.args.i + 3)
unfolding half
third c = tries-next (number2 c.before) (second c.before.before.before) c.if-le2-ne32768.false

number4 : (c : tie.After-le4) → Number
    c.args.octets.now
    (c.args.i + 3) 4 c.le4.result
    (c.args.i + 7)
number4 c = record { is = c.le4.ensures.0; after = omega arith; inside = omega arith }

fourth : (c : tie.Else-le4-ne2147483648) → Tries c.args.octets.now c.args.i
    (8 ∷ []) (c.args.i + 7)
unfolding half
fourth c = tries-next (number4 c.before) (third c.before.before.before) c.if-le4-ne2147483648.false

returns : tie.Need-returns-then-left-eq0
returns c = let a = c.args in told-cut (tries-cut (tries-first a.octets.now a.i) (omega arith) (omega arith))

returns-2 : tie.Need-returns-then-octets-i
unfolding half
returns-2 c = let a = c.args in told-got
    (tries-here (one-octet a.octets.now a.i (omega arith)) (tries-first a.octets.now a.i)
    c.if-octets-i.true)

returns-3 : tie.Need-returns-then-left-lt3
returns-3 c = told-cut (tries-cut (second c.before) (omega arith) (omega arith))

returns-4 : tie.Need-returns-then-le2-ne32768
unfolding half
returns-4 c = told-got (tries-here (number2 c.before) (second c.before.before.before) c.if-le2-ne32768.true)

returns-5 : tie.Need-returns-then-left-lt7
returns-5 c = told-cut (tries-cut (third c.before) (omega arith) (omega arith))

returns-6 : tie.Need-returns-then-le4-ne2147483648
unfolding half
returns-6 c = told-got (tries-here (number4 c.before) (third c.before.before.before) c.if-le4-ne2147483648.true)

returns-7 : tie.Need-returns
returns-7 c =
    let a = c.args in (
      λ e.
          let h = leb-true 15 (length a.octets.now - a.i) e in
          let N : Number a.octets.now (a.i + 7) 8 (number (take 8 (drop (a.i + 7) a.octets.now)))
          (a.i + 15) = record { is = refl; after = omega arith; inside = omega arith } in
          (told-got (tries-last N (fourth c))).0 refl,
      λ e.
          let h = leb-false 15 (length a.octets.now - a.i) e in
          tries-cut (fourth c) (omega arith) (omega arith),
    )

pub whole_spec : {M : Type 1} → statement M
whole_spec =
    tie.close
    (tie.spec
    (λ c. search rules) returns (λ c. search rules) returns-2 returns-3 (λ c. search rules)
    (λ c κs. search rules) returns-4 returns-5 (λ c. search rules) (λ c κs. search rules) returns-6 returns-7)
