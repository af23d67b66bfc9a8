-- 192 octets of which some are escapes, passed at once: what each octet adds leads to the pixels that the octets
-- stand for. Assumes nothing.
use Rattle.std.proofs.Common.{◌≡◌, ℕ, zero, suc, ◌+◌, ◌-◌, ◌*◌, ◌<◌, ◌≤◌, Bool, true, false, cond, eqb, ltb, List, length, get_or, take, drop, ℤ, pos, negsuc, ◌+ℤ◌, nat_abs, sym, refl, ap, ◌∙◌, subst, ap₂, inl, inr, add-one, arith, ltb-false, ltb-true, lt-ltb, eqb-true}
use lib.Bits.{bit_and, bit_or}
use borrow.Author.Tests.{eqb-false}
use Rattle.cbf_pixels.specs.Octets.{number, half, signed}
use Rattle.cbf_octets.specs.Difference.{Took}
use Rattle.cbf_sums.specs.Passes.{biased_least, Between, Passes}
use Rattle.cbf_sums.specs.Mixed.{mark_of, IsMark, EachMark, Apart, end_mark, ends_to, whole_octets, choose, sign_of}
use Rattle.cbf_sums.specs.Mixed.{added_at, Walk}
use Rattle.cbf_sums.proofs.MarksLaws.{Marked}
use Rattle.cbf_octets.proofs.OctetsLaws.{number-one, number-parts}
use Rattle.cbf_octets.proofs.DifferenceLaws.{signed_low, signed_high, clamped-near, Number, one-octet, tries-first}
use Rattle.cbf_octets.proofs.DifferenceLaws.{tries-next, tries-here}
use Rattle.cbf_octets.proofs.PlainLaws.{plain-took}
use Rattle.cbf_sums.proofs.PassesLaws.{passes_none, passes-passes, step_in}

-- ---- marks

-- an octet is the escape, or it is not: its mark
data Octet (o m : ℕ) : Type 0 where
  escape : o ≡ 128 → m ≡ 255 → Octet o m
  other : (o ≡ 128 → ⊥) → m ≡ 0 → Octet o m

mark-of : (o : ℕ) → Octet o (mark_of o)
unfolding mark_of
mark-of o = go (eqb o 128) refl
  where
    go : (t : Bool) → eqb o 128 ≡ t → Octet o (cond t 255 0)
    go true q = escape (eqb-true o 128 q) refl
    go false q = other (eqb-false o 128 q) refl

pub each-mark : (os : List ℕ) (i : ℕ) (ms : List ℕ) → Marked os i ms → EachMark ms
each-mark os i ms M k h = go (ltb k 16) refl
  where
    from : Octet (get_or os (i + (k - 16)) 0) (mark_of (get_or os (i + (k - 16)) 0)) → IsMark (mark_of (get_or os (i + (k - 16)) 0))
    from (escape _ e) = inr e
    from (other _ e) = inl e

    go : (t : Bool) → ltb k 16 ≡ t → IsMark (get_or ms k 0)
    go true q = inl (M.none k (ltb-true k 16 q))
    go false q =
        let l = ltb-false k 16 q in
        let e : 16 + (k - 16) ≡ k = omega arith in
        subst IsMark (sym (M.mark (k - 16) (omega arith)) ∙ ap (λ (n : ℕ). get_or ms n 0) e) (from (mark-of (get_or os (i + (k - 16)) 0)))

-- an escape stands within two behind another
crowded : (a b c : ℕ) → c ≡ 255 → bit_or b a ≡ 255 → bit_and c (bit_or b a) ≡ 0 → ⊥
crowded a b c e f h = let x : ◌≡◌ {A = ℕ} 255 0 = sym (ap₂ bit_and e f) ∙ h in omega arith

-- ---- what an octet adds

choose-plain : (a b c x y : ℕ) → a ≡ 0 → b ≡ 0 → c ≡ 0 → choose a b c x y ≡ x
unfolding choose
choose-plain a b c x y p q r = rw (p, q, r)

choose-none : (a b c x y : ℕ) → a ≡ 0 → 0 < b + c → choose a b c x y ≡ 0
unfolding choose
choose-none a b c x y p h = rw (p, lt-ltb 0 (b + c) h)

choose-end : (a b c x y : ℕ) → a ≡ 255 → choose a b c x y ≡ y
unfolding choose
choose-end a b c x y p = rw p

ends-here : (b c : ℕ) → b ≡ 0 → c ≡ 0 → end_mark b c ≡ 1
unfolding end_mark
ends-here b c p q = rw (p, q)

ends-not : (b c : ℕ) → 0 < b + c → end_mark b c ≡ 0
unfolding end_mark
ends-not b c h = rw (lt-ltb 0 (b + c) h)

-- a plain octet extended to two
signed-wide : (o : ℕ) → o < 256 → signed 2 (o + 256 * sign_of o) ≡ signed 1 o
unfolding half sign_of
signed-wide o b = go (ltb o 128) refl
  where
    go : (t : Bool) → ltb o 128 ≡ t → signed 2 (o + 256 * cond t 0 255) ≡ signed 1 o
    go true q =
        let l = ltb-true o 128 q in
        let e : o + 256 * 0 ≡ o = omega arith in
        ap (signed 2) e ∙ signed_low 2 o (omega arith) ∙ sym (signed_low 1 o l)
    go false q =
        let l = ltb-false o 128 q in
        let e : 65536 - suc (o + 256 * 255) ≡ 256 - suc o = omega arith in
        signed_high 2 (o + 256 * 255) (omega arith) ∙ ap negsuc e ∙ sym (signed_high 1 o l)

add-zero : (z : ℕ) → pos z +ℤ signed 2 0 ≡ pos z
unfolding half
add-zero z = ap (λ (x : ℤ). pos z +ℤ x) (signed_low 2 0 (omega arith)) ∙ ap pos (omega arith)

pos-same : (a b : ℕ) → pos a ≡ pos b → a ≡ b
pos-same a b e = cc

-- ---- three octets

signed-two : (n : ℕ) → nat_abs (signed 2 n) ≤ 65536
unfolding signed half
signed-two n = go (ltb n 32768) refl
  where
    go : (c : Bool) → ltb n 32768 ≡ c → nat_abs (cond c (pos n) (negsuc (65536 - suc n))) ≤ 65536
    go true q = let h = ltb-true n 32768 q in omega arith
    go false q = omega arith

two-octets : (os : List ℕ) (k : ℕ) → k + 3 ≤ length os → Number os (k + 1) 2 (get_or os (k + 1) 0 + 256 * get_or os (k + 2) 0) (k + 3)
two-octets os k h =
    let e : k + 1 + 1 ≡ k + 2 = omega arith in
    let a = number-one (k + 1) os (omega arith) in
    let b = ap (λ (m : ℕ). number (take 1 (drop m os))) e ∙ number-one (k + 2) os (omega arith) in
    let c = number-parts 1 1 (k + 1) os (omega arith) in
    record { is = sym (c ∙ ap₂ (λ (x y : ℕ). x + 256 * y) a b); after = omega arith; inside = h }

three-took : (os : List ℕ) (k : ℕ) → k + 3 ≤ length os → get_or os k 0 ≡ 128 → (get_or os (k + 1) 0 + 256 * get_or os (k + 2) 0 ≡ 32768 → ⊥)
    → Took os k (signed 2 (get_or os (k + 1) 0 + 256 * get_or os (k + 2) 0)) (k + 3)
unfolding half
three-took os k h e n =
    let m = get_or os (k + 1) 0 + 256 * get_or os (k + 2) 0 in
    record {
      difference = signed 2 m;
      read = tries-here (two-octets os k h) (tries-next (one-octet os k (omega arith)) (tries-first os k) e) n;
      near = sym (clamped-near (signed 2 m) (let l = signed-two m in omega arith));
      ahead = omega arith;
      reach = omega arith;
      inside = h;
    }

-- ---- one octet at a time

module _ (top : ℕ) (os : List ℕ) (start i : ℕ) where
  -- before the octet k, where the two octets before it have the marks a and b: n pixels are passed and led to v,
  -- and a difference starts at k, or at p, one or two before it, with an escape
  data At (a b n v k : ℕ) : Type 0 where
    fresh : a ≡ 0 → b ≡ 0 → Passes top os start i n v k → At a b n v k
    after_one : a ≡ 0 → b ≡ 255 → (p : ℕ) → p + 1 ≡ k → get_or os p 0 ≡ 128 → Passes top os start i n v p → At a b n v k
    after_two : a ≡ 255 → b ≡ 0 → (p : ℕ) → p + 2 ≡ k → get_or os p 0 ≡ 128 → Passes top os start i n v p → At a b n v k

  at-equal : {a b n v k a' b' n' v' k' : ℕ} → a ≡ a' → b ≡ b' → n ≡ n' → v ≡ v' → k ≡ k' → At a b n v k → At a' b' n' v' k'
  at-equal ea eb en ev ek s = rw (← ea, ← eb, ← en, ← ev, ← ek) s

  -- the octet at k has the mark c, and leads from v to v'
  module _ (a b c n v v' k : ℕ) (apart : bit_and c (bit_or b a) ≡ 0) (room : k < length os) (octet : (m : ℕ) → get_or os m 0 < 256)
      (from : Between top v) (to : Between top v')
      (adds : pos v' ≡ pos v +ℤ signed 2 (choose a b c (get_or os k 0) (get_or os (k - 1) 0) + 256 * choose a b c (sign_of (get_or os k 0)) (get_or os k 0))) where
    -- nothing is added, and no difference ends
    nothing : (p : ℕ) → a ≡ 0 → 0 < b + c → Passes top os start i n v p → Passes top os start i (n + end_mark b c) v' p
    nothing p ea h P =
        let x = choose-none a b c (get_or os k 0) (get_or os (k - 1) 0) ea h in
        let y = choose-none a b c (sign_of (get_or os k 0)) (get_or os k 0) ea h in
        let e = pos-same v v' (sym (adds ∙ ap₂ (λ (s t : ℕ). pos v +ℤ signed 2 (s + 256 * t)) x y ∙ add-zero v)) in
        let f = ends-not b c h in
        let g : n ≡ n + end_mark b c = omega arith in
        subst (λ (w : ℕ). Passes top os start i (n + end_mark b c) w p) e (subst (λ (m : ℕ). Passes top os start i m v p) g P)

    -- a difference from p on ends
    one_more_lem : (p : ℕ) (d : ℤ) → Took os p d (k + 1) → b ≡ 0 → c ≡ 0 → pos v' ≡ pos v +ℤ d → Passes top os start i n v p
        → Passes top os start i (n + end_mark b c) v' (k + 1)
    one_more_lem p d T eb ec e P =
        subst (λ (m : ℕ). Passes top os start i (n + m) v' (k + 1)) (sym (ends-here b c eb ec))
        (passes-passes top os start i n 1 v p v' (k + 1) P (step_in T from e to))

    plain : a ≡ 0 → b ≡ 0 → c ≡ 0 → (get_or os k 0 ≡ 128 → ⊥) → Passes top os start i n v k → Passes top os start i (n + end_mark b c) v' (k + 1)
    plain ea eb ec o P =
        let x = choose-plain a b c (get_or os k 0) (get_or os (k - 1) 0) ea eb ec in
        let y = choose-plain a b c (sign_of (get_or os k 0)) (get_or os k 0) ea eb ec in
        one_more_lem k (signed 1 (get_or os k 0)) (plain-took os k room o) eb ec
        (adds ∙ ap (λ (z : ℤ). pos v +ℤ z) (ap₂ (λ (s t : ℕ). signed 2 (s + 256 * t)) x y ∙ signed-wide (get_or os k 0) (octet k))) P

    last : (p : ℕ) → p + 2 ≡ k → get_or os p 0 ≡ 128 → a ≡ 255 → b ≡ 0 → c ≡ 0 → (get_or os k 0 ≡ 128 → ⊥)
        → Passes top os start i n v p → Passes top os start i (n + end_mark b c) v' (k + 1)
    last p ep es ea eb ec o P =
        let e1 : k - 1 ≡ p + 1 = omega arith in
        let e3 : p + 3 ≡ k + 1 = omega arith in
        let x = choose-end a b c (get_or os k 0) (get_or os (k - 1) 0) ea ∙ ap (λ (m : ℕ). get_or os m 0) e1 in
        let y = choose-end a b c (sign_of (get_or os k 0)) (get_or os k 0) ea ∙ ap (λ (m : ℕ). get_or os m 0) (sym ep) in
        let f = ap (λ (m : ℕ). get_or os m 0) ep in
        let T = three-took os p (omega arith) es (λ q. two-not (get_or os (p + 1) 0) (get_or os (p + 2) 0) (octet (p + 1)) (λ w. o (sym f ∙ w)) q) in
        let d = signed 2 (get_or os (p + 1) 0 + 256 * get_or os (p + 2) 0) in
        one_more_lem p d (subst (Took os p d) e3 T) eb ec
        (adds ∙ ap (λ (z : ℤ). pos v +ℤ z) (ap₂ (λ (s t : ℕ). signed 2 (s + 256 * t)) x y)) P
      where
        two-not : (s t : ℕ) → s < 256 → (t ≡ 128 → ⊥) → s + 256 * t ≡ 32768 → ⊥
        two-not s t h n e = omega arith

    at_next : Octet (get_or os k 0) c → At a b n v k → At b c (n + end_mark b c) v' (k + 1)
    at_next (escape o ec) (fresh ea eb P) = after_one eb ec k refl o (nothing k ea (omega arith) P)
    at_next (other o ec) (fresh ea eb P) = fresh eb ec (plain ea eb ec o P)
    at_next (escape o ec) (after_one ea eb p ep es P) = absurd (crowded a b c ec (ap₂ bit_or eb ea) apart)
    at_next (other o ec) (after_one ea eb p ep es P) = after_two eb ec p (omega arith) es (nothing p ea (omega arith) P)
    at_next (escape o ec) (after_two ea eb p ep es P) = absurd (crowded a b c ec (ap₂ bit_or eb ea) apart)
    at_next (other o ec) (after_two ea eb p ep es P) = fresh eb ec (last p ep es ea eb ec o P)

-- ---- all octets

-- a difference that starts among the last two octets is left for later
whole_is : (top : ℕ) (os : List ℕ) (b i : ℕ) (ms : List ℕ) (n v : ℕ) → At top os b i (get_or ms 206 0) (get_or ms 207 0) n v (i + 192)
    → Passes top os b i n v (i + whole_octets ms)
unfolding whole_octets
whole_is top os b i ms n v (fresh ea eb P) = rw (ea, eb) P
whole_is top os b i ms n v (after_one ea eb p ep es P) =
    let e : p ≡ i + 191 = omega arith in
    rw eb (subst (Passes top os b i n v) e P)
whole_is top os b i ms n v (after_two ea eb p ep es P) =
    let e : p ≡ i + 190 = omega arith in
    rw (ea, eb) (subst (Passes top os b i n v) e P)

module _ (top : ℕ) (os : List ℕ) (i : ℕ) (ms ds : List ℕ) (b b' : ℕ) (M : Marked os i ms) (apart : Apart ms)
    (adds : (j : ℕ) → j < 192 → get_or ds (16 + j) 0 ≡ added_at os i ms j)
    (octet : (k : ℕ) → get_or os k 0 < 256) (inside : i + 192 ≤ length os) (W : Walk ds biased_least top b b') where
  mixed-at : (j : ℕ) → j ≤ 192 → At top os b i (get_or ms (14 + j) 0) (get_or ms (15 + j) 0) (ends_to ms j) (W.at j) (i + j)
  unfolding ends_to
  mixed-at zero h =
      let e : i ≡ i + 0 = omega arith in
      at-equal top os b i refl refl refl (sym W.first) e
      (fresh (M.none 14 (omega arith)) (M.none 15 (omega arith)) (passes_none top os b i))
  mixed-at (suc j) h = more (mixed-at j (omega arith))
    where
      more : At top os b i (get_or ms (14 + j) 0) (get_or ms (15 + j) 0) (ends_to ms j) (W.at j) (i + j)
          → At top os b i (get_or ms (14 + suc j) 0) (get_or ms (15 + suc j) 0)
          (ends_to ms j + end_mark (get_or ms (15 + j) 0) (get_or ms (16 + j) 0)) (W.at (suc j)) (i + suc j)
      more s =
          let e14 : 15 + j ≡ 14 + suc j = omega arith in
          let e15 : 16 + j ≡ 15 + suc j = omega arith in
          let e : i + j + 1 ≡ i + suc j = omega arith in
          at-equal top os b i (ap (λ (k : ℕ). get_or ms k 0) e14) (ap (λ (k : ℕ). get_or ms k 0) e15) refl (ap W.at (add-one j)) e
          (at_next top os b i (get_or ms (14 + j) 0) (get_or ms (15 + j) 0) (get_or ms (16 + j) 0) (ends_to ms j) (W.at j) (W.at (j + 1)) (i + j)
          (apart j (omega arith)) (omega arith) octet (W.inside j (omega arith)) (W.inside (j + 1) (omega arith))
          (W.step j (omega arith) ∙ ap (λ (n : ℕ). pos (W.at j) +ℤ signed 2 n) (adds j (omega arith)))
          (subst (Octet (get_or os (i + j) 0)) (sym (M.mark j (omega arith))) (mark-of (get_or os (i + j) 0))) s)

-- the octets of the whole differences, and the pixels that they lead to
pub mixed-passes : (top : ℕ) (os : List ℕ) (i : ℕ) (ms ds : List ℕ) (b b' : ℕ) → Marked os i ms → Apart ms
    → ((j : ℕ) → j < 192 → get_or ds (16 + j) 0 ≡ added_at os i ms j)
    → ((k : ℕ) → get_or os k 0 < 256) → 1 ≤ i → i + 192 ≤ length os → Walk ds biased_least top b b' → Passes top os b i (ends_to ms 192) b' (i + whole_octets ms)
mixed-passes top os i ms ds b b' M apart adds octet _ inside W =
    subst (λ (v : ℕ). Passes top os b i (ends_to ms 192) v (i + whole_octets ms)) W.last
    (whole_is top os b i ms (ends_to ms 192) (W.at 192) (mixed-at top os i ms ds b b' M apart adds octet inside W 192 (omega arith)))
