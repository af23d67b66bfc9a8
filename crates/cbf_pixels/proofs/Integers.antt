-- Integers: bounds, sums and differences, and tests of them. Assumes nothing.
use Prim.Native.Nat.{ℕ, zero, suc, ◌+◌, ◌-◌, ◌^◌, ◌<◌, ◌≤◌}
use native.Mathlib.Omega.{arith}
use mathlib.Core.Path.{◌≡◌, refl, sym, ap, ◌∙◌}
use mathlib.Core.Bool.{Bool, true, false, cond}
use lib.Dec.{ltb, lit<}
use lib.IntN.{ℤ, pos, negsuc, sub_ℕ, ◌+ℤ◌, ◌-ℤ◌, +ℤ_comm, +ℤ-neg_ℤ_cancel, -ℤ-+ℤ_cancel}
use lib.Signed.{mag, le_z}
use mir.Syntax.{w64}
use mir.Val.{to_z, of_z}
use mir.Facts.{to_z-of_z}
use borrow.Author.Tests.{leb-true, lt-ltb, le-ltb, ltb-true, ltb-false}
use Rattle.cbf_pixels.specs.declared.ElementType.{ElementType}
use Rattle.cbf_pixels.specs.declared.ElementType.TheVariants.{U8, S8, U16, S16, U32, S32}
use Rattle.cbf_pixels.specs.Pixels.{least, greatest, within}

-- ---- tests and bounds

pub cond-left : (a b : Bool) → cond a b false ≡ true → a ≡ true
cond-left true b e = refl
cond-left false b e = e

pub cond-right : (a b : Bool) → cond a b false ≡ true → b ≡ true
cond-right true b e = e
cond-right false b e = let z : ◌≡◌ {A = ℕ} 0 1 = cc in let y : ⊥ = omega arith in absurd y

pub never : {X : Type 0} → false ≡ true → X
never e = let z : ◌≡◌ {A = ℕ} 0 1 = cc in let y : ⊥ = omega arith in absurd y

pub between : (B : ℕ) (lo hi z : ℤ) → mag lo < B → mag hi < B → le_z lo z ≡ true → le_z z hi ≡ true → mag z < B
between B lo (pos h) (pos n) l g p q = let r = leb-true n h q in omega arith
between B lo (negsuc h) (pos n) l g p q = never q
between B (pos l') hi (negsuc n) l g p q = never p
between B (negsuc l') hi (negsuc n) l g p q = let r = leb-true n l' p in omega arith

pub bounds-small : (t : ElementType) → (mag (least t) < 2 ^ 32) × (mag (greatest t) < 2 ^ 32)
bounds-small U8 = (lit< tt, lit< tt)
bounds-small S8 = (lit< tt, lit< tt)
bounds-small U16 = (lit< tt, lit< tt)
bounds-small S16 = (lit< tt, lit< tt)
bounds-small U32 = (lit< tt, lit< tt)
bounds-small S32 = (lit< tt, lit< tt)

pub least-small : (t : ElementType) → mag (least t) < 2 ^ 33
least-small t = omega (arith, (bounds-small t).0)

pub greatest-small : (t : ElementType) → mag (greatest t) < 2 ^ 33
greatest-small t = omega (arith, (bounds-small t).1)

pub within-small : (t : ElementType) (z : ℤ) → within (least t) (greatest t) z ≡ true → mag z < 2 ^ 32
unfolding within
within-small t z w =
    between (2 ^ 32) (least t) (greatest t) z (bounds-small t).0 (bounds-small t).1 (cond-left (le_z (least t) z)
    (le_z z (greatest t)) w) (cond-right (le_z (least t) z) (le_z z (greatest t)) w)

pub mag-subℕ : (a b H : ℕ) → a < H → b ≤ H → mag (sub_ℕ a b) < H
mag-subℕ a b H h k = go (ltb a b)
  where
    go : (c : Bool) → mag (cond c (negsuc (b - suc a)) (pos (a - b))) < H
    go true = omega arith
    go false = omega arith

pub mag-sub : (x y : ℤ) {H : ℕ} → mag x < H → mag y < H → mag (x -ℤ y) < H + H
mag-sub (pos a) (pos zero) h k = omega arith
mag-sub (pos a) (pos (suc b)) {H} h k = let q = mag-subℕ a (suc b) H h (omega arith) in omega arith
mag-sub (pos a) (negsuc b) h k = omega arith
mag-sub (negsuc a) (pos zero) {H} h k = let q = mag-subℕ 0 (suc a) H (omega arith) h in omega arith
mag-sub (negsuc a) (pos (suc b)) h k = omega arith
mag-sub (negsuc a) (negsuc b) {H} h k = let q = mag-subℕ (suc b) (suc a) (suc H) (omega arith) (omega arith) in omega arith

-- ---- sums and differences

pub there : (z p : ℤ) → z +ℤ (p -ℤ z) ≡ p
there z p = +ℤ_comm z (p -ℤ z) ∙ -ℤ-+ℤ_cancel p z

pub back : (z d : ℤ) → (z +ℤ d) -ℤ z ≡ d
back z d = ap (λ (x : ℤ). x -ℤ z) (+ℤ_comm z d) ∙ +ℤ-neg_ℤ_cancel d z

pub subℕ-pos : (a b : ℕ) → b ≤ a → sub_ℕ a b ≡ pos (a - b)
subℕ-pos a b h = ap (λ (t : Bool). cond t (negsuc (b - suc a)) (pos (a - b))) (le-ltb a b h)

pub subℕ-neg : (a b : ℕ) → a < b → sub_ℕ a b ≡ negsuc (b - suc a)
subℕ-neg a b h = ap (λ (t : Bool). cond t (negsuc (b - suc a)) (pos (a - b))) (lt-ltb a b h)

pub subℕ-eq : (a b c d : ℕ) → a + d ≡ c + b → sub_ℕ a b ≡ sub_ℕ c d
subℕ-eq a b c d e = go (ltb a b) refl
  where
    go : (t : Bool) → ltb a b ≡ t → sub_ℕ a b ≡ sub_ℕ c d
    go true q =
        let h = ltb-true a b q in
        subℕ-neg a b h ∙ ap negsuc (omega arith) ∙ sym (subℕ-neg c d (omega arith))
    go false q =
        let h = ltb-false a b q in
        subℕ-pos a b h ∙ ap pos (omega arith) ∙ sym (subℕ-pos c d (omega arith))

-- ---- the machine's integers

-- an integer of 64 bits, stored and read
pub held : (z : ℤ) → mag z < 2 ^ 63 → to_z w64 (of_z w64 z) ≡ z
held z h = to_z-of_z {w = w64} (record { sfits = h })

pub within_held : (t : ElementType) (z : ℤ) → within (least t) (greatest t) z ≡ true → to_z w64 (of_z w64 z) ≡ z
within_held t z w = held z (omega (arith, within-small t z w))
