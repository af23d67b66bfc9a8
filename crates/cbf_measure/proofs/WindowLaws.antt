-- Windows of 128 numbers, from a multiple of 128 on: pixels of one window are near each other, and no type's range ends
-- between them. Assumes nothing.
use Rattle.std.proofs.Common.{◌≡◌, ℕ, zero, suc, ◌+◌, ◌-◌, ◌*◌, ◌/◌, ◌^◌, ◌<◌, ◌≤◌, Bool, true, false, cond, ltb, List, length, take, drop, get_or, ℤ, pos, negsuc, ◌-ℤ◌, nat_abs, sym, refl, ap, ◌∙◌, subst, arith, w64, of_z, below_more, ltb-false, ltb-true, le-leb, leb-true}
use Rattle.std.proofs.lemmas.List.{get_or-take, get_or-drop, length-take-le, length-drop}
use lib.Bits.{bit_xor, bit_or, xor_shr, xor_add_and, and_le_l, and_le_r}
use lib.IntN.{sub_ℕ, pos-ne-negsuc}
use lib.Signed.{mag, le_z}
use Rattle.cbf_pixels.specs.Pixels.{least, greatest, within}
use Rattle.cbf_measure.specs.Window.{SameWindow, WindowRun}
use Rattle.cbf_pixels.specs.declared.ElementType.{ElementType}
use Rattle.cbf_pixels.specs.declared.ElementType.TheVariants.{U8, S8, U16, S16, U32, S32}
use Rattle.cbf_pixels.proofs.Bitwise.{or_left, or_right}
use Rattle.cbf_pixels.proofs.Integers.{cond-left, cond-right}

-- ---- bitwise tests

xor_same : (a b : ℕ) → bit_xor a b ≡ 0 → a ≡ b
xor_same a b e = omega (arith, xor_add_and a b, and_le_l a b, and_le_r a b)

pub xor-window : (a b : ℕ) → bit_xor a b < 128 → a / 128 ≡ b / 128
xor-window a b h =
    let z : bit_xor a b / 2 ^ 7 ≡ 0 = omega arith in
    xor_same (a / 128) (b / 128) (sym (xor_shr a b 7) ∙ z)

-- each of the numbers that were joined to all is at most all
pub or-more : (f : ℕ → ℕ) (j all : ℕ) → ((i : ℕ) → i < j → f i ≤ all) → (i : ℕ) → i < j + 1 → f i ≤ bit_or all (f j)
or-more f j all h = below_more (λ (i : ℕ). f i ≤ bit_or all (f j)) j (λ i l. omega (arith, h i l, or_left all (f j))) (or_right all (f j))

-- ---- pixels of one window

pub window-sym : (y z : ℤ) → SameWindow y z → SameWindow z y
unfolding SameWindow
window-sym y z e = sym e

pub window-trans : (x y z : ℤ) → SameWindow x y → SameWindow y z → SameWindow x z
unfolding SameWindow
window-trans x y z e f = e ∙ f

-- what the words of two numbers say of them
pub word-window : (y z : ℤ) → mag y < 2 ^ 63 → mag z < 2 ^ 63 → of_z w64 y / 128 ≡ of_z w64 z / 128 → SameWindow y z
unfolding SameWindow
word-window (pos a) (pos b) h k e = ap pos e
word-window (pos a) (negsuc b) h k e = let y : ⊥ = omega arith in absurd y
word-window (negsuc a) (pos b) h k e = let y : ⊥ = omega arith in absurd y
word-window (negsuc a) (negsuc b) h k e = let q : a / 128 ≡ b / 128 = omega arith in ap negsuc q

nat_abs-subℕ : (a b H : ℕ) → a < b + H → b < a + H → nat_abs (sub_ℕ a b) < H
nat_abs-subℕ a b H h k = go (ltb a b) refl
  where
    go : (t : Bool) → ltb a b ≡ t → nat_abs (cond t (negsuc (b - suc a)) (pos (a - b))) < H
    go true q = let l = ltb-true a b q in omega arith
    go false q = let l = ltb-false a b q in omega arith

-- the difference of two of them takes one octet
pub window-near : (y z : ℤ) → SameWindow y z → nat_abs (y -ℤ z) < 128
unfolding SameWindow
window-near (pos a) (pos zero) e = omega (arith, ap mag e)
window-near (pos a) (pos (suc b)) e = nat_abs-subℕ a (suc b) 128 (omega (arith, ap mag e)) (omega (arith, ap mag e))
window-near (pos a) (negsuc b) e = absurd (pos-ne-negsuc (a / 128) (b / 128) e)
window-near (negsuc a) (pos b) e = absurd (pos-ne-negsuc (b / 128) (a / 128) (sym e))
window-near (negsuc a) (negsuc b) e = nat_abs-subℕ (suc b) (suc a) 128 (omega (arith, ap mag e)) (omega (arith, ap mag e))

-- ---- a type's range is made of windows: -128 a to 128 b + 127

data Low : ℤ → Type 0 where
  none_below : Low (pos 0)
  below : (a : ℕ) → Low (negsuc (128 * a + 127))

data High : ℤ → Type 0 where
  above : (b : ℕ) → High (pos (128 * b + 127))

low-is : (t : ElementType) → Low (least t)
low-is U8 = none_below
low-is S8 = below 0
low-is U16 = none_below
low-is S16 = below 255
low-is U32 = none_below
low-is S32 = below 16777215

high_is : (t : ElementType) → High (greatest t)
high_is U8 = above 1
high_is S8 = above 0
high_is U16 = above 511
high_is S16 = above 255
high_is U32 = above 33554431
high_is S32 = above 16777215

window-low : {lo : ℤ} → Low lo → (y z : ℤ) → SameWindow y z → le_z lo z ≡ true → le_z lo y ≡ true
unfolding SameWindow
window-low none_below (pos m) z e h = le-leb 0 m (omega arith)
window-low none_below (negsuc m) (pos n) e h = absurd (pos-ne-negsuc (n / 128) (m / 128) (sym e))
window-low none_below (negsuc m) (negsuc n) e h = h
window-low (below a) (pos m) z e h = refl
window-low (below a) (negsuc m) (pos n) e h = absurd (pos-ne-negsuc (n / 128) (m / 128) (sym e))
window-low (below a) (negsuc m) (negsuc n) e h =
    let l = leb-true n (128 * a + 127) h in
    le-leb m (128 * a + 127) (omega (arith, ap mag e))

window-high : {hi : ℤ} → High hi → (y z : ℤ) → SameWindow y z → le_z z hi ≡ true → le_z y hi ≡ true
unfolding SameWindow
window-high (above b) (pos m) (pos n) e h =
    let l = leb-true n (128 * b + 127) h in
    le-leb m (128 * b + 127) (omega (arith, ap mag e))
window-high (above b) (pos m) (negsuc n) e h = absurd (pos-ne-negsuc (m / 128) (n / 128) e)
window-high (above b) (negsuc m) z e h = refl

pub window-within : (t : ElementType) (y z : ℤ) → SameWindow y z → within (least t) (greatest t) z ≡ true → within (least t) (greatest t) y ≡ true
unfolding within
window-within t y z e w =
    rw (window-low (low-is t) y z e (cond-left (le_z (least t) z) (le_z z (greatest t)) w))
    (window-high (high_is t) y z e (cond-right (le_z (least t) z) (le_z z (greatest t)) w))

-- ---- runs

pub run_none : (ps : List ℤ) (k : ℕ) (last : ℤ) → k ≤ length ps → WindowRun ps k last 0
run_none ps k last h = record { same = λ j l. let y : ⊥ = omega arith in absurd y; inside = omega arith; blocks = refl }

-- of the m pixels from k on
pub run-slice : (ps : List ℤ) (k m : ℕ) {last : ℤ} {n : ℕ} → k + m ≤ length ps → WindowRun (take m (drop k ps)) 0 last n → WindowRun ps k last n
run-slice ps k m {last} {n} h R =
    let e = length-take-le m (drop k ps) (omega (arith, length-drop k ps)) in
    let i = R.inside in
    record {
      same =
          λ j l.
          let z : 0 + j ≡ j = omega arith in
          subst (λ (y : ℤ). SameWindow y last)
          (ap (λ (i : ℕ). get_or (take m (drop k ps)) i (pos 0)) z ∙ get_or-take m (drop k ps) j (pos 0) (omega arith) ∙ get_or-drop k ps j (pos 0)) (R.same j l);
      inside = omega arith;
      blocks = R.blocks;
    }

pub run_more : {ps : List ℤ} {k : ℕ} {last : ℤ} {n : ℕ} → WindowRun ps k last n
    → ((j : ℕ) → j < 32 → SameWindow (get_or ps (k + n + j) (pos 0)) last) → k + n + 32 ≤ length ps
    → WindowRun ps k last (n + 32)
run_more {ps} {k} {last} {n} R h l = let b = R.blocks in record { same = λ j u. go j u (ltb j n) refl; inside = omega arith; blocks = omega arith }
  where
    go : (j : ℕ) → j < n + 32 → (t : Bool) → ltb j n ≡ t → SameWindow (get_or ps (k + j) (pos 0)) last
    go j u true q = R.same j (ltb-true j n q)
    go j u false q =
        let v = ltb-false j n q in
        let e : k + n + (j - n) ≡ k + j = omega arith in
        subst (λ (i : ℕ). SameWindow (get_or ps i (pos 0)) last) e (h (j - n) (omega arith))

-- a block more
pub run-block : (ps : List ℤ) (n m : ℕ) {last : ℤ} → WindowRun ps 0 last n → 32 ≤ m → n + 32 ≤ length ps
    → ((j : ℕ) → j < 32 → SameWindow (get_or (take m (drop n ps)) j (pos 0)) last) → WindowRun ps 0 last (n + 32)
run-block ps n m {last} R h l f =
    run_more R
    (λ j g.
    let q : n + j ≡ 0 + n + j = omega arith in
    subst (λ (y : ℤ). SameWindow y last)
    (get_or-take m (drop n ps) j (pos 0) (omega arith) ∙ get_or-drop n ps j (pos 0) ∙ ap (λ (i : ℕ). get_or ps i (pos 0)) q) (f j g))
    (omega arith)
