-- The first pass: biased pixels, one at a time, many, and in parts. Assumes nothing.
use Rattle.std.proofs.Common.{◌≡◌, ℕ, suc, ◌+◌, ◌-◌, ◌*◌, ◌^◌, ◌<◌, ◌≤◌, Bool, true, false, cond, ltb, leb, List, [], ◌∷◌, drop, ℤ, pos, negsuc, ◌+ℤ◌, neg_ℤ, nat_abs, sym, refl, ap, ◌∙◌, subst, ap₂, inl, inr, arith, ltb-false, ltb-true, le-leb, leb-false, leb-true}
use lib.IntN.{sub_ℕ, +ℤ_comm, +ℤ_assoc, neg_ℤ-+ℤ}
use lib.Signed.{le_z}
use borrow.Author.Tests.{lt-leb}
use Rattle.cbf_pixels.specs.declared.ElementType.{ElementType}
use Rattle.cbf_pixels.specs.declared.ElementType.TheVariants.{U8, S8, U16, S16, U32, S32}
use Rattle.cbf_pixels.specs.Pixels.{run_out, read_by, widths, within, least, greatest}
use Rattle.cbf_pixels.specs.PixelCalls.{is_some}
use Rattle.cbf_octets.specs.Rest.{rest, Enough}
use Rattle.cbf_octets.specs.Difference.{clamped, Took}
use Rattle.cbf_sums.specs.Passes.{biased_least, biased_zero, biased_greatest, pixel_at, Top, Between, Passes, Fails}
use Rattle.cbf_sums.specs.Passes.{Failed, Passed}
use Rattle.cbf_pixels.proofs.Integers.{subℕ-pos, subℕ-neg}
use Rattle.cbf_octets.proofs.DifferenceLaws.{pos-sub, clamped-near, clamped-far}
use Rattle.cbf_octets.proofs.RestLaws.{some-onto, whole_here, rest-next, rest-outside, rest-run-out}

-- ---- differences of numbers: sums and order

-- a sum with an integer
pub sub-sum : (a b a' : ℕ) (d : ℤ) → pos a' ≡ pos a +ℤ d → sub_ℕ a b +ℤ d ≡ sub_ℕ a' b
sub-sum a b a' d e =
    ap (λ (z : ℤ). z +ℤ d) (sym (pos-sub a b))
    ∙ +ℤ_assoc (pos a) (neg_ℤ (pos b)) d
    ∙ ap (λ (z : ℤ). pos a +ℤ z) (+ℤ_comm (neg_ℤ (pos b)) d)
    ∙ sym (+ℤ_assoc (pos a) d (neg_ℤ (pos b)))
    ∙ ap (λ (z : ℤ). z +ℤ neg_ℤ (pos b)) (sym e)
    ∙ pos-sub a' b

pub sub-down : (a b n : ℕ) → sub_ℕ a b +ℤ negsuc n ≡ sub_ℕ a (b + suc n)
sub-down a b n =
    ap (λ (z : ℤ). z +ℤ negsuc n) (sym (pos-sub a b))
    ∙ +ℤ_assoc (pos a) (neg_ℤ (pos b)) (negsuc n)
    ∙ ap (λ (z : ℤ). pos a +ℤ z) (sym (neg_ℤ-+ℤ (pos b) (pos (suc n))))
    ∙ pos-sub a (b + suc n)

leb-same : (a b c d : ℕ) → (a ≤ b → c ≤ d) → (c ≤ d → a ≤ b) → leb a b ≡ leb c d
leb-same a b c d f g = go (leb a b) (leb c d) refl refl
  where
    go : (t u : Bool) → leb a b ≡ t → leb c d ≡ u → t ≡ u
    go true true p q = refl
    go true false p q = let h = leb-false c d q in let k = f (leb-true a b p) in let y : ⊥ = omega arith in absurd y
    go false true p q = let h = leb-false a b p in let k = g (leb-true c d q) in let y : ⊥ = omega arith in absurd y
    go false false p q = refl

pub sub_order : (a b c d : ℕ) → le_z (sub_ℕ a b) (sub_ℕ c d) ≡ leb (a + d) (c + b)
sub_order a b c d = go (ltb a b) refl (ltb c d) refl
  where
    go : (t : Bool) → ltb a b ≡ t → (u : Bool) → ltb c d ≡ u → le_z (sub_ℕ a b) (sub_ℕ c d) ≡ leb (a + d) (c + b)
    go true q true r =
        let h = ltb-true a b q in
        let k = ltb-true c d r in
        ap₂ le_z (subℕ-neg a b h) (subℕ-neg c d k) ∙ leb-same (d - suc c) (b - suc a) (a + d) (c + b) (λ l. omega arith) (λ l. omega arith)
    go true q false r =
        let h = ltb-true a b q in
        let k = ltb-false c d r in
        ap₂ le_z (subℕ-neg a b h) (subℕ-pos c d k) ∙ sym (le-leb (a + d) (c + b) (omega arith))
    go false q true r =
        let h = ltb-false a b q in
        let k = ltb-true c d r in
        ap₂ le_z (subℕ-pos a b h) (subℕ-neg c d k) ∙ sym (lt-leb (a + d) (c + b) (omega arith))
    go false q false r =
        let h = ltb-false a b q in
        let k = ltb-false c d r in
        ap₂ le_z (subℕ-pos a b h) (subℕ-pos c d k) ∙ leb-same (a - b) (c - d) (a + d) (c + b) (λ l. omega arith) (λ l. omega arith)

-- ---- biased pixels

least_is : (t : ElementType) → least t ≡ sub_ℕ biased_least (biased_zero t)
least_is U8 = refl
least_is S8 = refl
least_is U16 = refl
least_is S16 = refl
least_is U32 = refl
least_is S32 = refl

greatest_is : (t : ElementType) → greatest t ≡ sub_ℕ (biased_greatest t) (biased_zero t)
greatest_is U8 = refl
greatest_is S8 = refl
greatest_is U16 = refl
greatest_is S16 = refl
greatest_is U32 = refl
greatest_is S32 = refl

pub zero-between : (t : ElementType) → Between (biased_greatest t) (biased_zero t)
zero-between U8 = (omega arith, omega arith)
zero-between S8 = (omega arith, omega arith)
zero-between U16 = (omega arith, omega arith)
zero-between S16 = (omega arith, omega arith)
zero-between U32 = (omega arith, omega arith)
zero-between S32 = (omega arith, omega arith)

pub top-is : (t : ElementType) → Top (biased_greatest t)
top-is U8 = record { exponent = 8; parts = 4294967296; whole = refl; size = refl; small = omega arith; large = omega arith }
top-is S8 = record { exponent = 8; parts = 4294967296; whole = refl; size = refl; small = omega arith; large = omega arith }
top-is U16 = record { exponent = 16; parts = 16777216; whole = refl; size = refl; small = omega arith; large = omega arith }
top-is S16 = record { exponent = 16; parts = 16777216; whole = refl; size = refl; small = omega arith; large = omega arith }
top-is U32 = record { exponent = 32; parts = 256; whole = refl; size = refl; small = omega arith; large = omega arith }
top-is S32 = record { exponent = 32; parts = 256; whole = refl; size = refl; small = omega arith; large = omega arith }

pub top_small : (top : ℕ) → Top top → top < biased_least + 2 ^ 32
top_small top T = let s = T.size in let l = T.small in omega arith

-- a difference of numbers is in a type's range where the numbers are
module _ (t : ElementType) (a b : ℕ) where
  within-is : within (least t) (greatest t) (sub_ℕ a b) ≡ cond (leb (biased_least + b) (a + biased_zero t)) (leb (a + biased_zero t) (biased_greatest t + b)) false
  unfolding within
  within-is =
      rw (least_is t, greatest_is t, sub_order biased_least (biased_zero t) a b, sub_order a b (biased_greatest t) (biased_zero t))

  within_in : biased_least + b ≤ a + biased_zero t → a + biased_zero t ≤ biased_greatest t + b → within (least t) (greatest t) (sub_ℕ a b) ≡ true
  within_in l r =
      within-is ∙ rw (le-leb (biased_least + b) (a + biased_zero t) l, le-leb (a + biased_zero t) (biased_greatest t + b) r)

  within_low : a + biased_zero t < biased_least + b → within (least t) (greatest t) (sub_ℕ a b) ≡ false
  within_low l = within-is ∙ rw (lt-leb (biased_least + b) (a + biased_zero t) l)

  within-high : biased_greatest t + b < a + biased_zero t → within (least t) (greatest t) (sub_ℕ a b) ≡ false
  within-high l = within-is ∙ rw (lt-leb (a + biased_zero t) (biased_greatest t + b) l) (go (leb (biased_least + b) (a + biased_zero t)))
    where
      go : (c : Bool) → cond c false false ≡ false
      go true = refl
      go false = refl

-- ---- clamped differences

-- a difference is clamped or not
data Clamp (d : ℤ) : Type 0 where
  near : nat_abs d ≤ 2 ^ 33 → clamped d ≡ d → Clamp d
  far : 2 ^ 33 < nat_abs d → clamped d ≡ pos (2 ^ 36) → Clamp d

clamp : (d : ℤ) → Clamp d
clamp d = go (leb (nat_abs d) (2 ^ 33)) refl
  where
    go : (c : Bool) → leb (nat_abs d) (2 ^ 33) ≡ c → Clamp d
    go true q = let h = leb-true (nat_abs d) (2 ^ 33) q in near h (clamped-near d h)
    go false q = let h = leb-false (nat_abs d) (2 ^ 33) q in far h (clamped-far d h)

pos-is : (a b : ℕ) → pos a ≡ pos b → a ≡ b
pos-is a b e = cc

-- what the sum of a number and an integer is
sum-up : (a a' n : ℕ) → pos a' ≡ pos a +ℤ pos n → a' ≡ a + n
sum-up a a' n e = pos-is a' (a + n) e

sum-down : (a a' n : ℕ) → suc n ≤ a → pos a' ≡ pos a +ℤ negsuc n → a' ≡ a - suc n
sum-down a a' n h e = pos-is a' (a - suc n) (e ∙ subℕ-pos a (suc n) h)

-- how far a clamped difference leads
pub reach : (a a' : ℕ) (d : ℤ) → 2 ^ 33 ≤ a → nat_abs d ≤ 2 ^ 33 → pos a' ≡ pos a +ℤ d → (a ≤ a' + 2 ^ 33) × (a' ≤ a + 2 ^ 33)
reach a a' (pos n) h k e = let g = sum-up a a' n e in (omega arith, omega arith)
reach a a' (negsuc n) h k e = let g = sum-down a a' n (omega arith) e in (omega arith, omega arith)

pub clamped-reach : (a a' : ℕ) (d : ℤ) → 2 ^ 33 ≤ a → pos a' ≡ pos a +ℤ clamped d → (a ≤ a' + 2 ^ 33) × (a' ≤ a + 2 ^ 36)
clamped-reach a a' d h e = go (clamp d)
  where
    go : Clamp d → (a ≤ a' + 2 ^ 33) × (a' ≤ a + 2 ^ 36)
    go (near l f) =
        let r = reach a a' d h l (e ∙ ap (λ (z : ℤ). pos a +ℤ z) f) in
        (r.0, omega (arith, r.1))
    go (far l f) = let g = sum-up a a' (2 ^ 36) (e ∙ ap (λ (z : ℤ). pos a +ℤ z) f) in (omega arith, omega arith)

module _ (t : ElementType) (a a' : ℕ) (b : Between (biased_greatest t) a) where
  small : biased_greatest t < biased_least + 2 ^ 32
  small = top_small (biased_greatest t) (top-is t)

  -- a sum that stays in the type is the one with the difference itself
  sum-in : (d : ℤ) → pos a' ≡ pos a +ℤ clamped d → Between (biased_greatest t) a' → pixel_at t a +ℤ d ≡ pixel_at t a'
  unfolding pixel_at
  sum-in d e r = go (clamp d)
    where
      go : Clamp d → sub_ℕ a (biased_zero t) +ℤ d ≡ sub_ℕ a' (biased_zero t)
      go (near l f) = sub-sum a (biased_zero t) a' d (e ∙ ap (λ (z : ℤ). pos a +ℤ z) f)
      go (far l f) =
          let g = sum-up a a' (2 ^ 36) (e ∙ ap (λ (z : ℤ). pos a +ℤ z) f) in
          let y : ⊥ = omega (arith, small, b.0, r.1) in
          absurd y

  pub within-between : Between (biased_greatest t) a' → within (least t) (greatest t) (pixel_at t a') ≡ true
  unfolding pixel_at
  within-between r = within_in t a' (biased_zero t) (omega (arith, r.0)) (omega (arith, r.1))

  pub within-beyond : (Between (biased_greatest t) a' → ⊥) → within (least t) (greatest t) (pixel_at t a') ≡ false
  unfolding pixel_at
  within-beyond n = go (ltb a' biased_least) refl (ltb (biased_greatest t) a') refl
    where
      go : (c : Bool) → ltb a' biased_least ≡ c → (u : Bool) → ltb (biased_greatest t) a' ≡ u → within (least t) (greatest t) (sub_ℕ a' (biased_zero t)) ≡ false
      go true p u q = let h = ltb-true a' biased_least p in within_low t a' (biased_zero t) (omega arith)
      go false p true q = let h = ltb-true (biased_greatest t) a' q in within-high t a' (biased_zero t) (omega arith)
      go false p false q = absurd (n (ltb-false a' biased_least p, ltb-false (biased_greatest t) a' q))

  within-far : (d : ℤ) → 2 ^ 33 < nat_abs d → within (least t) (greatest t) (pixel_at t a +ℤ d) ≡ false
  unfolding pixel_at
  within-far (pos n) h =
      ap (within (least t) (greatest t)) (sub-sum a (biased_zero t) (a + n) (pos n) refl)
      ∙ within-high t (a + n) (biased_zero t) (omega (arith, small, b.0))
  within-far (negsuc n) h =
      ap (within (least t) (greatest t)) (sub-down a (biased_zero t) n) ∙ within_low t a (biased_zero t + suc n) (omega (arith, small, b.1))

  -- and one that leaves it leaves it with the difference itself
  sum-out : (d : ℤ) → pos a' ≡ pos a +ℤ clamped d → (Between (biased_greatest t) a' → ⊥) → within (least t) (greatest t) (pixel_at t a +ℤ d) ≡ false
  unfolding pixel_at
  sum-out d e r = go (clamp d)
    where
      go : Clamp d → within (least t) (greatest t) (sub_ℕ a (biased_zero t) +ℤ d) ≡ false
      go (near l f) =
          ap (within (least t) (greatest t)) (sub-sum a (biased_zero t) a' d (e ∙ ap (λ (z : ℤ). pos a +ℤ z) f)) ∙ within-beyond r
      go (far l f) = within-far d l

-- ---- one pixel, and pixels one after the other

pub counts : (t : ElementType) (os tail : List ℕ) (z : ℤ) (i n m : ℕ) → n ≡ m → is_some (rest t os tail z i n) ≡ is_some (rest t os tail z i m)
counts t os tail z i n m e = ap (λ (x : ℕ). is_some (rest t os tail z i x)) e

module _ {top : ℕ} {os : List ℕ} {biased biased' i j : ℕ} {value : ℤ} (T : Took os i value j) (b : Between top biased)
    (e : pos biased' ≡ pos biased +ℤ value) where
  sum_is : pos biased' ≡ pos biased +ℤ clamped T.difference
  sum_is = e ∙ ap (λ (z : ℤ). pos biased +ℤ z) T.near

  pub step_in : Between top biased' → Passes top os biased i 1 biased' j
  unfolding Passes
  step_in r t q tail m =
      let b' = subst (λ (n : ℕ). Between n biased) (sym q) b in
      let r' = subst (λ (n : ℕ). Between n biased') (sym q) r in
      let s = sum-in t biased biased' b' T.difference sum_is r' in
      let w = ap (within (least t) (greatest t)) s ∙ within-between t biased biased' b' r' in
      ap is_some (rest-next t os tail (pixel_at t biased) i m T.difference j T.read w)
      ∙ some-onto ((pixel_at t biased +ℤ T.difference) ∷ []) (rest t os tail (pixel_at t biased +ℤ T.difference) j m)
      ∙ ap (λ (z : ℤ). is_some (rest t os tail z j m)) s

  pub step-out : (Between top biased' → ⊥) → (tail : List ℕ) → Fails top os tail biased i 1
  unfolding Fails is_some
  step-out r tail t q m =
      let b' = subst (λ (n : ℕ). Between n biased) (sym q) b in
      let w = sum-out t biased biased' b' T.difference sum_is (λ r'. r (subst (λ (n : ℕ). Between n biased') q r')) in
      ap is_some (rest-outside t os tail (pixel_at t biased) i m T.difference j T.read w)

module _ (top : ℕ) (os : List ℕ) (biased i : ℕ) where
  -- octets that run out, unless more are behind them
  pub step-run-out : read_by widths (drop i os) ≡ run_out → (tail : List ℕ) → Enough os tail i 15 → Fails top os tail biased i 1
  unfolding Fails is_some
  step-run-out e tail (inl n) t q m = ap is_some (rest-run-out t os tail (pixel_at t biased) i m e n)
  step-run-out e tail (inr h) t q m = absurd (whole_here os i h e)

  pub passes_none : Passes top os biased i 0 biased i
  unfolding Passes
  passes_none t q tail m = counts t os tail (pixel_at t biased) i (0 + m) m (omega arith)

  pub passes-passes : (n m biased' j biased'' k : ℕ) → Passes top os biased i n biased' j → Passes top os biased' j m
      biased'' k → Passes top os biased i (n + m) biased'' k
  unfolding Passes
  passes-passes n m biased' j biased'' k p q t e tail r =
      counts t os tail (pixel_at t biased) i (n + m + r) (n + (m + r)) (omega arith) ∙ p t e tail (m + r) ∙ q t e tail r

  pub passes-fails : (n m biased' j : ℕ) (tail : List ℕ) → Passes top os biased i n biased' j → Fails top os tail
      biased' j m → Fails top os tail biased i (n + m)
  unfolding Passes Fails
  passes-fails n m biased' j tail p q t e r =
      counts t os tail (pixel_at t biased) i (n + m + r) (n + (m + r)) (omega arith) ∙ p t e tail (m + r) ∙ q t e r

  pub fails_more : (n m : ℕ) (tail : List ℕ) → n ≤ m → Fails top os tail biased i n → Fails top os tail biased i m
  unfolding Fails
  fails_more n m tail h p t e r =
      counts t os tail (pixel_at t biased) i (m + r) (n + (m - n + r)) (omega arith) ∙ p t e (m - n + r)

  -- n pixels more
  pub passed-more : (m n biased' j biased'' k : ℕ) → Passes top os biased i m biased' j → Passed top os biased' j n biased'' k
      → Passed top os biased i (m + n) biased'' k
  passed-more m n biased' j biased'' k p q =
      record { between = q.between; passes = passes-passes m n biased' j biased'' k p q.passes; inside = q.inside }

  pub failed-more : (m n left biased' j : ℕ) → Passes top os biased i m biased' j → ((tail : List ℕ) → Enough os tail i 480 → Enough os tail j 480)
      → m + n ≤ left → Failed top os biased' j n → Failed top os biased i left
  failed-more m n left biased' j p e h f tail w =
      fails_more (m + n) left tail h (passes-fails m n biased' j tail p (f tail (e tail w)))

  -- after m pixels, for which there were octets enough
  pub failed-stop : (n m biased' j : ℕ) → Passes top os biased i m biased' j → j ≤ i + 15 * m
      → ((tail : List ℕ) → Enough os tail j 15 → Fails top os tail biased' j 1) → m < n → n ≤ 32
      → Failed top os biased i n
  failed-stop n m biased' j p r f h l tail w =
      fails_more (m + 1) n tail (omega arith) (passes-fails m 1 biased' j tail p (f tail (left w)))
    where
      left : Enough os tail i 480 → Enough os tail j 15
      left (inl e) = inl e
      left (inr e) = inr (omega arith)
