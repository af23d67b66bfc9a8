use Rattle.std.proofs.Common.{◌≡◌, ℕ, Bool, true, false, ltb, ℤ, nat_abs, sym, ap, ◌∙◌, to_z-of_z, w64}
use mathlib.Core.Bool.{not}
use mir.Val.{bool_byte}
use Rattle.cbf_measure.specs.Measure.{over}
use Rattle.cbf_measure.proofs.RangeLaws.{over_no, over_yes}
use Rattle.cbf_pack.proofs.dense.beyond.Goals as goal

told : (d : ℤ) (h : ℕ) (t : Bool) → ltb (nat_abs d) h ≡ t → bool_byte (not t) ≡ over d h
told d h true e = sym (over_no d h e)
told d h false e = sym (over_yes d h e)

pub returns : goal.returns
returns c =
    c.from.ensures
    ∙ told c.args.d c.args.half c.narrow.result
    (sym (c.narrow.ensures ∙ ap (λ (z : ℤ). ltb (nat_abs z) c.args.half) (to_z-of_z {w = w64} c.ranges.d)))
