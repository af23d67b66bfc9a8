use Prim.Native.Nat.{◌+◌, ◌≤◌}
use native.Mathlib.Omega.{arith}
use mathlib.Core.Path.{refl, ap, ◌∙◌}
use mathlib.Core.List.{[], ◌∷◌}
use lib.ListN.{length}
use borrow.Author.Rules.{rules}
use Rattle.cbf_pixels.specs.Octets.{half, signed}
use Rattle.cbf_octets.proofs.DifferenceLaws.{Tries, Number, one-octet, tries-first, tries-next, tries-room}
use Rattle.cbf_octets.proofs.DifferenceLaws.{took-here, took-last}
use Rattle.cbf_octets.proofs.difference.read_difference.Statement.{statement}
use Rattle.cbf_octets.proofs.difference.read_difference.Tie as tie

-- the octets of each width that is tried, and the widths that are left after an escape
room1 : (c : tie.Start) → c.args.i + 1 ≤ length c.args.octets.now
room1 c = tries-room c.requires (tries-first c.args.octets.now c.args.i) (omega arith)

second : (c : tie.Else-o) → Tries c.args.octets.now c.args.i
    (2 ∷ 4 ∷ 8 ∷ []) (c.args.i + 1)
unfolding half
second c =
    let a = c.args in
    tries-next (one-octet a.octets.now a.i (omega (arith, room1 c.before.before.before))) (tries-first a.octets.now a.i) c.if-o.false

room2 : (c : tie.Else-o) → c.args.i + 1 + 2 ≤ length c.args.octets.now
room2 c = tries-room c.requires (second c) (omega arith)

number2 : (c : tie.After-le2-n2) → Number c.args.octets.now
    (c.args.i + 1) 2 c.le2-n2.result (c.args.i +
    3)
number2 c = let h = room2 c.before in record { is = c.le2-n2.ensures.0; after = omega arith; inside = omega arith }

third : (c : tie.Else-n2-ne32768) → Tries c.args.octets.now
    c.args.i (4 ∷ 8 ∷ [])
    (c.args.i + 3)
unfolding half
third c = tries-next (number2 c.before) (second c.before.before) c.if-n2-ne32768.false

room4 : (c : tie.Else-n2-ne32768) → c.args.i + 3 + 4 ≤ length c.args.octets.now
room4 c = tries-room c.requires (third c) (omega arith)

number4 : (c : tie.After-le4-n4) → Number c.args.octets.now
    (c.args.i + 3) 4 c.le4-n4.result
    (c.args.i + 7)
number4 c = let h = room4 c.before in record { is = c.le4-n4.ensures.0; after = omega arith; inside = omega arith }

fourth : (c : tie.Else-n4-ne2147483648) → Tries c.args.octets.now
    c.args.i (8 ∷ [])
    (c.args.i + 7)
unfolding half
fourth c = tries-next (number4 c.before) (third c.before.before) c.if-n4-ne2147483648.false

room8 : (c : tie.Else-n4-ne2147483648) → c.args.i + 7 + 8 ≤ length
    c.args.octets.now
room8 c = tries-room c.requires (fourth c) (omega arith)

number8 : (c : tie.After-le8) → Number
    c.args.octets.now
    (c.args.i + 7) 8 c.le8.result
    (c.args.i + 15)
number8 c = let h = room8 c.before in record { is = c.le8.ensures.0; after = omega arith; inside = omega arith }

shared-slice-read-o : tie.Need-bounds-octets-i
shared-slice-read-o c = omega (arith, room1 c.before.before)

extended-requires : tie.Need-extended-requires
extended-requires c κs = record { exponent = 7; power = refl; small = omega arith; fits = omega arith }

add-t11 : tie.Need-overflow_add-result
add-t11 c = omega (arith, room1 c.before.before.before.before.before)

returns : tie.Need-returns-then-o
unfolding half
returns c =
    let a = c.args in
    let h = room1 c.before.before.before.before.before in
    took-here (one-octet a.octets.now a.i (omega arith)) (tries-first a.octets.now a.i)
    c.if-o.true (omega arith) (omega arith) (omega arith) (omega arith)
    (c.extended.ensures 1 refl ∙ ap (signed 1) c.from.ensures)

add-le2 : tie.Need-overflow_add-i
add-le2 c = omega (arith, room2 c)

le2-requires : tie.Need-le2-n2-requires
le2-requires c κs = room2 c

extended-requires-2 : tie.Need-extended-requires-then-n2-ne32768
extended-requires-2 c κs = record { exponent = 15; power = refl; small = omega arith; fits = omega arith }

add-t14 : tie.Need-overflow_add-result-then-n2-ne32768
add-t14 c = omega (arith, room2 c.before.before.before)

returns-2 : tie.Need-returns-then-n2-ne32768
unfolding half
returns-2 c =
    took-here (number2 c.before.before) (second c.before.before.before) c.if-n2-ne32768.true (omega arith)
    (omega arith) (omega arith) (omega arith) (c.extended-then-n2-ne32768.ensures 2 refl)

add-le4 : tie.Need-overflow_add-i-2
add-le4 c = omega (arith, room4 c)

le4-requires : tie.Need-le4-n4-requires
le4-requires c κs = room4 c

extended-requires-3 : tie.Need-extended-requires-then-n4-ne2147483648
extended-requires-3 c κs = record { exponent = 31; power = refl; small = omega arith; fits = omega arith }

add-t16 : tie.Need-overflow_add-result-then-n4-ne2147483648
add-t16 c = omega (arith, room4 c.before.before.before)

returns-3 : tie.Need-returns-then-n4-ne2147483648
unfolding half
returns-3 c =
    took-here (number4 c.before.before) (third c.before.before.before) c.if-n4-ne2147483648.true (omega arith)
    (omega arith) (omega arith) (omega arith) (c.extended-then-n4-ne2147483648.ensures 4 refl)

add-le8 : tie.Need-overflow_add-i-3
add-le8 c = omega (arith, room8 c)

le8-requires : tie.Need-le8-requires
le8-requires c κs = room8 c

add-t19 : tie.Need-overflow_add-result-2
add-t19 c = omega (arith, room8 c.before.before)

returns-4 : tie.Need-returns
returns-4 c = took-last (number8 c.before) (fourth c.before.before) (omega arith) (omega arith) c.far.ensures

pub read_difference_spec : {M : Type 1} → statement M
read_difference_spec =
    tie.close
    (tie.spec
    shared-slice-read-o (λ c κs. search rules) extended-requires add-t11 returns add-le2 le2-requires
    extended-requires-2 add-t14 returns-2 add-le4 le4-requires extended-requires-3 add-t16 returns-3 add-le8
    le8-requires (λ c κs. search rules) add-t19 returns-4)
