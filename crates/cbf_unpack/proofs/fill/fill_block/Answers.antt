-- The octet is a difference, and one more pixel unpacks.
use Prim.Native.Nat.{◌+◌}
use mathlib.Core.Path.{refl, sym, ap, ◌∙◌, subst}
use native.Mathlib.Omega.{arith}
use lib.IntN.{ℤ}
use mir.Syntax.{w64}
use mir.Val.{to_z}
use Rattle.cbf_pixels.specs.Octets.{half, signed}
use Rattle.cbf_octets.specs.Difference.{Took}
use Rattle.cbf_octets.proofs.PlainLaws.{plain-took}
use Rattle.cbf_unpack.specs.Fill.{Unpacks}
use Rattle.cbf_unpack.proofs.FillLaws.{held-sum, stepped, filled-one, filled-then, filled-as, unpacks-then, unpacks-held}
use Rattle.cbf_unpack.proofs.fill.fill_block.Goals as goal
use Rattle.cbf_unpack.proofs.fill.fill_block.Goals.{After-extended-z}

-- where the octet was read: it is a difference
took : (c : After-extended-z) → let i = c.args.i + c.loop-j.j in Took c.args.octets.now i c.extended-z.result (i + 1)
unfolding half
took c =
    let os = c.args.octets.now in
    let i = c.args.i + c.loop-j.j in
    let r = c.extended-z.ensures 1 refl ∙ ap (signed 1) c.from.ensures in
    subst (λ (v : ℤ). Took os i v (i + 1)) (sym r) (plain-took os i (omega arith) (c.requires.2 c.loop-j.j (omega arith)))

-- and one more pixel unpacks
unpacks : (c : After-extended-z) → Unpacks c.args.octets.now (to_z w64 c.loop-j.z-bits) (c.args.i + c.loop-j.j) 1 0
unpacks c = unpacks-then 1 (unpacks-held c.requires.0) c.loop-j.invariant (omega arith)

pub extended-z-requires : goal.extended-z-requires
extended-z-requires c = record { exponent = 7; power = refl; small = omega arith; fits = omega arith }

pub overflow_add-z : goal.overflow_add-z
overflow_add-z c =
    let d = (goal.at.overflow_add-z c).After-extended-z in
    let g = stepped (unpacks d) (took d) in
    (held-sum {a = to_z w64 c.loop-j.z-bits} refl g.held_value g.small).0

pub loop-j-preserved : goal.loop-j-preserved
loop-j-preserved c =
    let l = c.loop-j in
    let d = (goal.at.loop-j-preserved c).After-extended-z in
    let g = stepped (unpacks d) (took d) in
    let sum = (held-sum {a = to_z w64 l.z-bits} refl g.held_value g.small).1 in
    filled-as (filled-then l.invariant (filled-one (c.args.k + l.j) l.out (unpacks d) (took d) sum) refl refl) refl refl refl (omega arith)
