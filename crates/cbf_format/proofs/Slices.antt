-- A part of a list as the code takes it. Assumes nothing.
use mathlib.Core.Path.{◌≡◌, ap, ◌∙◌}
use mathlib.Core.List.{List}
use Prim.Native.Nat.{ℕ, ◌+◌, ◌-◌, ◌≤◌}
use native.Mathlib.Omega.{arith}
use lib.ListN.{length, take, drop}
use lib.Seq.{slice, take-add, drop_at, length-take-le}

pub slice-take : {A : Type 0} (l : List A) (at n : ℕ) → at ≤ length l → slice at (at + n) l ≡ take n (drop at l)
slice-take l at n h = ap (drop at) (take-add at n l) ∙ drop_at (take at l) (take n (drop at l)) at (length-take-le at l h)

pub slice-part : {A : Type 0} (l : List A) (from to : ℕ) → from ≤ to → to ≤ length l
    → slice from to l ≡ take (to - from) (drop from l)
slice-part l from to h k =
    let e : to ≡ from + (to - from) = omega arith in
    ap (λ (n : ℕ). slice from n l) e ∙ slice-take l from (to - from) (omega arith)
