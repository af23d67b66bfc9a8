-- Arrays filled from 16 on, and sums modulo a number that stand in them. Assumes nothing.
use Rattle.std.proofs.Common.{◌≡◌, ℕ, zero, suc, ◌+◌, ◌-◌, ◌*◌, ◌%◌, ◌^◌, ◌<◌, ◌≤◌, Bool, true, false, ltb, List, length, get_or, set, replicate, ℤ, pos, ◌+ℤ◌, sym, refl, ap, ◌∙◌, subst, mod-eq_of_lt, add-one, arith, length-set, get_or-set_other, get_or-set_same, below_more, ltb-false, ltb-true}
use native.Mathlib.Nat.{mod-eq-sub-mod, mod-add-mod, add-mod-mod}
use lib.Bits.{bit_or}
use lib.ListN.{get_or-replicate}
use Rattle.cbf_pixels.specs.Octets.{half, signed}
use Rattle.cbf_sums.specs.Summing.{Written, four_at, back_at, total, Window, Windows, Levels}
use Rattle.cbf_pixels.proofs.Bitwise.{or_left, or_right}
use Rattle.cbf_pixels.proofs.Integers.{subℕ-pos}
use Rattle.cbf_octets.proofs.DifferenceLaws.{signed_low, signed_high, two-halves}

-- ---- arrays filled from 16 on

pub written_none : (f : ℕ → ℕ) (size : ℕ) (xs : List ℕ) → length xs ≡ size → Written f 0 size xs xs
written_none f size xs l = record { is = λ j h. let y : ⊥ = omega arith in absurd y; same = λ k h. refl; long = l }

pub written-more : (f : ℕ → ℕ) (j size : ℕ) (before xs : List ℕ) (x : ℕ) → Written f j size before xs → 16 + j < size → x ≡ f j
    → Written f (j + 1) size before (set xs (16 + j) x)
written-more f j size before xs x W l e =
    record {
      is = below_more (λ (m : ℕ). get_or (set xs (16 + j) x) (16 + m) 0 ≡ f m) j
          (λ m h. get_or-set_other xs (16 + j) (16 + m) x 0 (λ q. omega arith) ∙ W.is m h)
          (get_or-set_same xs (16 + j) x 0 (omega (arith, W.long)) ∙ e);
      same = λ k h. get_or-set_other xs (16 + j) k x 0 (λ q. omega arith) ∙ W.same k h;
      long = length-set xs (16 + j) x ∙ W.long;
    }

-- the bitwise or is at least each of them
pub under_more : (xs : List ℕ) (j all x : ℕ) → 16 + j < length xs → ((k : ℕ) → k < j → get_or xs (16 + k) 0 ≤ all)
    → (k : ℕ) → k < j + 1 → get_or (set xs (16 + j) x) (16 + k) 0 ≤ bit_or all x
under_more xs j all x l u =
    below_more (λ (k : ℕ). get_or (set xs (16 + j) x) (16 + k) 0 ≤ bit_or all x) j
    (λ k h. let e = get_or-set_other xs (16 + j) (16 + k) x 0 (λ q. omega arith) in omega (arith, u k h, or_left all x))
    (let e = get_or-set_same xs (16 + j) x 0 l in omega (arith, or_right all x))

-- ---- sums

total-none : (os : List ℕ) (i : ℕ) → total os i 0 ≡ 0
unfolding total
total-none os i = refl

total-more : (os : List ℕ) (i n : ℕ) → total os i (n + 1) ≡ total os i n + get_or os (i + n) 0
unfolding total
total-more os i n = ap (total os i) (add-one n)

-- ---- windows

module _ (m : ℕ) (os : List ℕ) (i : ℕ) where
  window-exact : (a b s : ℕ) → s + total os i (a - 15) ≡ total os i (b - 15) → Window m os i a b s
  window-exact a b s e = record { sum = ap (λ (t : ℕ). t % m) e }

  pub window-mod : {a b s x : ℕ} → Window m os i a b s → x ≡ s % m → Window m os i a b x
  window-mod {a} {b} {s} {x} W e =
      record { sum = ap (λ (u : ℕ). (u + total os i (a - 15)) % m) e ∙ mod-add-mod s m (total os i (a - 15)) ∙ W.sum }

  -- a window and the one behind it
  window-join : {a b c s t : ℕ} → Window m os i a b s → Window m os i b c t → Window m os i a c (t + s)
  window-join {a} {b} {c} {s} {t} S T =
      let o = total os i (a - 15) in
      let e : t + s + o ≡ t + (s + o) = omega arith in
      record {
        sum = ap (λ (u : ℕ). u % m) e ∙ sym (add-mod-mod t (s + o) m) ∙ ap (λ (u : ℕ). (t + u) % m) S.sum ∙ add-mod-mod t (total os i (b - 15)) m ∙ T.sum;
      }

  window-at : {w n : ℕ} {sums : List ℕ} → Windows m w os i n sums → (a b : ℕ) → a + w ≡ b → b < 16 + n → Window m os i a b (get_or sums b 0)
  window-at {w} {n} {sums} W a b e h =
      let p : b - w ≡ a = omega arith in
      subst (λ (k : ℕ). Window m os i k b (get_or sums b 0)) p (W.window b h)

  module _ (n : ℕ) (sums : List ℕ) (W : Windows m 4 os i n sums) (j : ℕ) (h : j < n) where
    pub window-8 : Window m os i (8 + j) (16 + j) (get_or sums (16 + j) 0 + get_or sums (12 + j) 0)
    window-8 = window-join (window-at W (8 + j) (12 + j) (omega arith) (omega arith)) (window-at W (12 + j) (16 + j) (omega arith) (omega arith))

    pub window-16 : Window m os i j (16 + j) (get_or sums (16 + j) 0 + get_or sums (12 + j) 0 + get_or sums (8 + j) 0 + get_or sums (4 + j) 0)
    window-16 =
        window-join (window-at W j (4 + j) (omega arith) (omega arith)) (window-join (window-at W (4 + j) (8 + j) (omega arith) (omega arith)) window-8)

  -- below 16 stands nothing
  windows-by : (w n : ℕ) (sums : List ℕ) → ((k : ℕ) → k < 16 → get_or sums k 0 ≡ 0)
      → ((j : ℕ) → j < n → Window m os i (16 + j - w) (16 + j) (get_or sums (16 + j) 0)) → Windows m w os i n sums
  windows-by w n sums zeros f = record { window = λ k h. go k h (ltb k 16) refl }
    where
      go : (k : ℕ) → k < 16 + n → (c : Bool) → ltb k 16 ≡ c → Window m os i (k - w) k (get_or sums k 0)
      go k h true q =
          let l = ltb-true k 16 q in
          let e : k - w - 15 ≡ k - 15 = omega arith in
          window-exact (k - w) k (get_or sums k 0) (omega (arith, zeros k l, ap (total os i) e))
      go k h false q =
          let l = ltb-false k 16 q in
          let e : 16 + (k - 16) ≡ k = omega arith in
          subst (λ (b : ℕ). Window m os i (b - w) b (get_or sums b 0)) e (f (k - 16) (omega arith))

  -- sums of twice as many
  pub windows-twice : (w n size : ℕ) (xs before ys : List ℕ) → w ≤ 8 → Windows m w os i n xs → ((k : ℕ) → k < 16 → get_or before k 0 ≡ 0)
      → Written (back_at m xs w) n size before ys → Windows m (w + w) os i n ys
  windows-twice w n size xs before ys l X zeros W = windows-by (w + w) n ys (λ k h. W.same k h ∙ zeros k h) each
    where
      each : (j : ℕ) → j < n → Window m os i (16 + j - (w + w)) (16 + j) (get_or ys (16 + j) 0)
      each j h =
          let a = window-at X (16 + j - (w + w)) (16 + j - w) (omega arith) (omega arith) in
          let b = window-at X (16 + j - w) (16 + j) (omega arith) (omega arith) in
          window-mod (window-join a b) (W.is j h)

-- the numbers from 16 on are themselves the sums of one
pub windows-one : (m : ℕ) (ds : List ℕ) (n : ℕ) → ((k : ℕ) → k < 16 → get_or ds k 0 ≡ 0) → Windows m 1 ds 16 n ds
windows-one m ds n zeros = windows-by m ds 16 1 n ds zeros one
  where
    one : (j : ℕ) → j < n → Window m ds 16 (16 + j - 1) (16 + j) (get_or ds (16 + j) 0)
    one j h =
        let e : 16 + j - 1 - 15 ≡ j = omega arith in
        let f : 16 + j - 15 ≡ j + 1 = omega arith in
        window-exact m ds 16 (16 + j - 1) (16 + j) (get_or ds (16 + j) 0) (omega (arith, ap (total ds 16) e, ap (total ds 16) f, total-more ds 16 j))

-- sums of four octets with those before i, and the first three without
module _ (os : List ℕ) (i n : ℕ) (before sums : List ℕ) (F : Written (four_at os i) n 1040 before sums) (zeros : (k : ℕ) → k < 16 → get_or before k 0 ≡ 0)
    (three : 3 ≤ i) (x y z : ℕ) (ex : x ≡ get_or os i 0) (ey : y ≡ (get_or os i 0 + get_or os (i + 1) 0 + 0 + 0) % 256)
    (ez : z ≡ (get_or os i 0 + get_or os (i + 1) 0 + get_or os (i + 2) 0 + 0) % 256) where
  abbrev last : List ℕ
  last = set (set (set sums 16 x) 17 y) 18 z

  apart : (k : ℕ) → (k ≡ 16 → ⊥) → (k ≡ 17 → ⊥) → (k ≡ 18 → ⊥) → get_or last k 0 ≡ get_or sums k 0
  apart k p q r =
      get_or-set_other (set (set sums 16 x) 17 y) 18 k z 0 r ∙ get_or-set_other (set sums 16 x) 17 k y 0 q ∙ get_or-set_other sums 16 k x 0 p

  at-16 : get_or last 16 0 ≡ x
  at-16 =
      get_or-set_other (set (set sums 16 x) 17 y) 18 16 z 0 (λ q. omega arith) ∙ get_or-set_other (set sums 16 x) 17 16 y 0 (λ q. omega arith)
      ∙ get_or-set_same sums 16 x 0 (omega (arith, F.long))

  at-17 : get_or last 17 0 ≡ y
  at-17 =
      get_or-set_other (set (set sums 16 x) 17 y) 18 17 z 0 (λ q. omega arith)
      ∙ get_or-set_same (set sums 16 x) 17 y 0 (omega (arith, length-set sums 16 x, F.long))

  at-18 : get_or last 18 0 ≡ z
  at-18 = get_or-set_same (set (set sums 16 x) 17 y) 18 z 0 (omega (arith, length-set (set sums 16 x) 17 y, length-set sums 16 x, F.long))

  none : total os i 0 ≡ 0
  none = total-none os i

  one : total os i 1 ≡ get_or os i 0
  one = let e : i + 0 ≡ i = omega arith in omega (arith, total-more os i 0, ap (λ (k : ℕ). get_or os k 0) e, none)

  two : total os i 2 ≡ get_or os i 0 + get_or os (i + 1) 0
  two = omega (arith, total-more os i 1, one)

  third : total os i 3 ≡ get_or os i 0 + get_or os (i + 1) 0 + get_or os (i + 2) 0
  third = omega (arith, total-more os i 2, two)

  total-four : (j : ℕ) → total os i (j + 4) ≡ total os i j + get_or os (i + j) 0 + get_or os (i + (j + 1)) 0 + get_or os (i + (j + 2)) 0 + get_or os (i + (j + 3)) 0
  total-four j =
      let e4 : j + 4 ≡ j + 3 + 1 = omega arith in
      let e3 : j + 3 ≡ j + 2 + 1 = omega arith in
      let e2 : j + 2 ≡ j + 1 + 1 = omega arith in
      let a = total-more os i j in
      let b = ap (total os i) e2 ∙ total-more os i (j + 1) in
      let c = ap (total os i) e3 ∙ total-more os i (j + 2) in
      let d = ap (total os i) e4 ∙ total-more os i (j + 3) in
      omega arith

  further : (j : ℕ) → j + 3 < n → Window 256 os i (16 + (j + 3) - 4) (16 + (j + 3)) (get_or last (16 + (j + 3)) 0)
  further j h =
      let e1 : i + (j + 3) - 1 ≡ i + (j + 2) = omega arith in
      let e2 : i + (j + 3) - 2 ≡ i + (j + 1) = omega arith in
      let e3 : i + (j + 3) - 3 ≡ i + j = omega arith in
      let f0 : 16 + (j + 3) - 4 - 15 ≡ j = omega arith in
      let f4 : 16 + (j + 3) - 15 ≡ j + 4 = omega arith in
      let a = ap (λ (k : ℕ). get_or os k 0) e1 in
      let b = ap (λ (k : ℕ). get_or os k 0) e2 in
      let c = ap (λ (k : ℕ). get_or os k 0) e3 in
      window-mod 256 os i
      (window-exact 256 os i (16 + (j + 3) - 4) (16 + (j + 3))
      (get_or os (i + (j + 3)) 0 + get_or os (i + (j + 3) - 1) 0 + get_or os (i + (j + 3) - 2) 0 + get_or os (i + (j + 3) - 3) 0)
      (omega (arith, total-four j, ap (total os i) f0, ap (total os i) f4)))
      (apart (16 + (j + 3)) (λ q. omega arith) (λ q. omega arith) (λ q. omega arith) ∙ F.is (j + 3) h)

  each : (j : ℕ) → j < n → Window 256 os i (16 + j - 4) (16 + j) (get_or last (16 + j) 0)
  each zero h = window-exact 256 os i 12 16 (get_or last 16 0) (omega (arith, at-16, one, none))
  each (suc zero) h = window-mod 256 os i (window-exact 256 os i 13 17 (get_or os i 0 + get_or os (i + 1) 0 + 0 + 0) (omega (arith, two, none))) (at-17 ∙ ey)
  each (suc (suc zero)) h =
      window-mod 256 os i (window-exact 256 os i 14 18 (get_or os i 0 + get_or os (i + 1) 0 + get_or os (i + 2) 0 + 0) (omega (arith, third, none))) (at-18 ∙ ez)
  each (suc (suc (suc j))) h =
      let e : j + 3 ≡ suc (suc (suc j)) = omega arith in
      subst (λ (k : ℕ). Window 256 os i (16 + k - 4) (16 + k) (get_or last (16 + k) 0)) e (further j (omega arith))

  pub windows-of : Windows 256 4 os i n last
  windows-of =
      windows-by 256 os i 4 n last (λ k h. apart k (λ q. omega arith) (λ q. omega arith) (λ q. omega arith) ∙ F.same k h ∙ zeros k h) each

-- ---- levels

pub levels-start : (m : ℕ) (os : List ℕ) (i c size : ℕ) → c < m → 16 ≤ size → Levels m os i c 0 (replicate size c)
levels-start m os i c size h l = record { level = start }
  where
    start : (k : ℕ) → k < 16 + 0 → get_or (replicate size c) k 0 ≡ (c + total os i (k - 15)) % m
    start k b =
        let e : k - 15 ≡ 0 = omega arith in
        let f : c ≡ c + total os i (k - 15) = omega (arith, ap (total os i) e, total-none os i) in
        get_or-replicate size k c 0 (omega arith) ∙ sym (mod-eq_of_lt h) ∙ ap (λ (t : ℕ). t % m) f

-- a level is one before it and the window between them
pub levels-more : (m : ℕ) (os : List ℕ) (i c j k s x : ℕ) (levels : List ℕ) → Levels m os i c j levels → k < 16 + j → 16 + j < length levels
    → Window m os i k (16 + j) s → x ≡ (get_or levels k 0 + s) % m → Levels m os i c (j + 1) (set levels (16 + j) x)
levels-more m os i c j k s x levels L h l W e =
    record {
      level = λ p b. below_more (λ (q : ℕ). get_or (set levels (16 + j) x) q 0 ≡ (c + total os i (q - 15)) % m) (16 + j)
          (λ q r. get_or-set_other levels (16 + j) q x 0 (λ y. omega arith) ∙ L.level q r) (get_or-set_same levels (16 + j) x 0 l ∙ here) p (omega arith);
    }
  where
    here : x ≡ (c + total os i (16 + j - 15)) % m
    here =
        let o = total os i (k - 15) in
        let f : c + o + s ≡ c + (s + o) = omega arith in
        e ∙ ap (λ (u : ℕ). (u + s) % m) (L.level k h) ∙ mod-add-mod (c + o) m s ∙ ap (λ (u : ℕ). u % m) f ∙ sym (add-mod-mod c (s + o) m)
        ∙ ap (λ (u : ℕ). (c + u) % m) W.sum ∙ add-mod-mod c (total os i (16 + j - 15)) m

-- ---- a number of k octets that is added to a lower half, modulo what k octets can hold, and leads to a lower half

add_low : (m h v v' d : ℕ) → m ≡ 2 * h → v < h → v' ≡ (v + d) % m → d < h → v' ≡ v + d
add_low m h v v' d w a e l = e ∙ mod-eq_of_lt (omega arith)

add-high : (m h v v' d : ℕ) → m ≡ 2 * h → v < h → v' < h → d < m → v' ≡ (v + d) % m → h ≤ d → v' + m ≡ v + d
add-high m h v v' d w a a' b e l = go (ltb (v + d) m) refl
  where
    go : (t : Bool) → ltb (v + d) m ≡ t → v' + m ≡ v + d
    go true q = let f = e ∙ mod-eq_of_lt (ltb-true (v + d) m q) in let y : ⊥ = omega arith in absurd y
    go false q = let g = ltb-false (v + d) m q in let f = e ∙ mod-eq-sub-mod g ∙ mod-eq_of_lt (omega arith) in omega arith

signed-step : (k base v v' d : ℕ) → v < half k → v' < half k → d < 256 ^ k → v' ≡ (v + d) % 256 ^ k → pos (base + v') ≡ pos (base + v) +ℤ signed k d
signed-step k base v v' d h h' b e = go (ltb d (half k)) refl
  where
    go : (t : Bool) → ltb d (half k) ≡ t → pos (base + v') ≡ pos (base + v) +ℤ signed k d
    go true q =
        let l = ltb-true d (half k) q in
        let p = add_low (256 ^ k) (half k) v v' d (two-halves k (omega arith)) h e l in
        let r : base + v' ≡ base + v + d = omega arith in
        ap pos r ∙ ap (λ (z : ℤ). pos (base + v) +ℤ z) (sym (signed_low k d l))
    go false q =
        let l = ltb-false d (half k) q in
        let p = add-high (256 ^ k) (half k) v v' d (two-halves k (omega arith)) h h' b e l in
        let r : base + v' ≡ base + v - suc (256 ^ k - suc d) = omega arith in
        ap pos r ∙ sym (subℕ-pos (base + v) (suc (256 ^ k - suc d)) (omega arith)) ∙ ap (λ (z : ℤ). pos (base + v) +ℤ z) (sym (signed_high k d l))

-- levels that all are in the lower half
module _ (k : ℕ) (os : List ℕ) (i c n : ℕ) (levels : List ℕ) (L : Levels (256 ^ k) os i c n levels)
    (small : (j : ℕ) → j < n → get_or levels (16 + j) 0 < half k) (start : c < half k) where
  level : (j : ℕ) → j ≤ n → get_or levels (15 + j) 0 ≡ (c + total os i j) % 256 ^ k
  level j h = let e : 15 + j - 15 ≡ j = omega arith in L.level (15 + j) (omega arith) ∙ ap (λ (p : ℕ). (c + total os i p) % 256 ^ k) e

  pub level-first : get_or levels (15 + 0) 0 ≡ c
  level-first =
      let e : c + total os i 0 ≡ c = omega (arith, total-none os i) in
      level 0 (omega arith) ∙ ap (λ (p : ℕ). p % 256 ^ k) e ∙ mod-eq_of_lt (omega (arith, start, two-halves k (omega (arith, start))))

  pub level-low : (j : ℕ) → j ≤ n → get_or levels (15 + j) 0 < half k
  level-low zero h = omega (arith, level-first, start)
  level-low (suc j) h = let e : 16 + j ≡ 15 + suc j = omega arith in subst (λ (p : ℕ). get_or levels p 0 < half k) e (small j (omega arith))

  follows : (j : ℕ) → j < n → get_or levels (15 + (j + 1)) 0 ≡ (get_or levels (15 + j) 0 + get_or os (i + j) 0) % 256 ^ k
  follows j h =
      let o = get_or os (i + j) 0 in
      let e : c + total os i (j + 1) ≡ c + total os i j + o = omega (arith, total-more os i j) in
      level (j + 1) (omega arith) ∙ ap (λ (p : ℕ). p % 256 ^ k) e ∙ sym (mod-add-mod (c + total os i j) (256 ^ k) o)
      ∙ ap (λ (p : ℕ). (p + o) % 256 ^ k) (sym (level j (omega arith)))

  pub level-step : (base j : ℕ) → j < n → get_or os (i + j) 0 < 256 ^ k
      → pos (base + get_or levels (15 + (j + 1)) 0) ≡ pos (base + get_or levels (15 + j) 0) +ℤ signed k (get_or os (i + j) 0)
  level-step base j h b =
      signed-step k base (get_or levels (15 + j) 0) (get_or levels (15 + (j + 1)) 0) (get_or os (i + j) 0) (level-low j (omega arith))
      (level-low (j + 1) (omega arith)) b (follows j h)
