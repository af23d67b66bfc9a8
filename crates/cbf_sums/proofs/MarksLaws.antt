-- Marks of escapes, and what an octet adds by them. Assumes nothing.
use Rattle.std.proofs.Common.{◌≡◌, ℕ, zero, suc, ◌+◌, ◌-◌, ◌<◌, ◌≤◌, Bool, true, false, cond, ltb, List, length, get_or, replicate, refl, ap, ◌∙◌, subst, ap₂, inl, inr, add-one, arith, below_more, ltb-false, ltb-true}
use lib.ListN.{get_or-replicate}
use Rattle.cbf_sums.specs.Mixed.{mark_at, IsMark, EachMark, Apart, end_mark, ends_to, choose, sign_of, added_at, Addends}
use lib.Bits.{bit_and, bit_or, bit_xor, and_mask, and_zero_r, or_zero_r}
use Rattle.cbf_sums.specs.Summing.{Written}
use Rattle.cbf_pixels.proofs.Bitwise.{or_left, or_right}

-- the marks of the 192 octets from i on, and 0 before them
pub record Marked (os : List ℕ) (i : ℕ) (ms : List ℕ) : Type 0 where
  pub mark : (j : ℕ) → j < 192 → get_or ms (16 + j) 0 ≡ mark_at os i j
  pub none : (k : ℕ) → k < 16 → get_or ms k 0 ≡ 0
  pub long : length ms ≡ 208

-- ---- marks

-- where the bitwise or of some numbers is 0, so is each
pub or-none : (f : ℕ → ℕ) (j all : ℕ) → (all ≡ 0 → (k : ℕ) → k < j → f k ≡ 0) → bit_or all (f j) ≡ 0 → (k : ℕ) → k < j + 1 → f k ≡ 0
or-none f j all before e = below_more (λ (k : ℕ). f k ≡ 0) j (before (omega (arith, e, or_left all (f j)))) (omega (arith, e, or_right all (f j)))

pub end_is : (b c : ℕ) → IsMark b → IsMark c → bit_and 1 (bit_xor 255 (bit_or b c)) ≡ end_mark b c
unfolding end_mark
end_is b c (inl p) (inl q) = rw (p, q)
end_is b c (inl p) (inr q) = rw (p, q)
end_is b c (inr p) (inl q) = rw (p, q)
end_is b c (inr p) (inr q) = rw (p, q)

pub ends_more : (ms : List ℕ) (j : ℕ) → ends_to ms (j + 1) ≡ ends_to ms j + end_mark (get_or ms (15 + j) 0) (get_or ms (16 + j) 0)
unfolding ends_to
ends_more ms j = ap (ends_to ms) (add-one j)

ends-least : (ms : List ℕ) (n m : ℕ) → ends_to ms n ≤ ends_to ms (n + m)
ends-least ms n zero = let e : n ≡ n + 0 = omega arith in omega (arith, ap (ends_to ms) e)
ends-least ms n (suc m) =
    let e : n + m + 1 ≡ n + suc m = omega arith in
    omega (arith, ends-least ms n m, ends_more ms (n + m), ap (ends_to ms) e)

-- of four octets where no escape stands within two behind another, the second, third or fourth ends a difference
one-ends : (a b c d : ℕ) → IsMark a → IsMark b → IsMark c → IsMark d → bit_and c (bit_or b a) ≡ 0 → bit_and d (bit_or c b) ≡ 0
    → 0 < end_mark a b + end_mark b c + end_mark c d
unfolding end_mark
one-ends a b c d (inl p) (inl q) r s u v = rw (p, q) (omega arith)
one-ends a b c d p (inl q) (inl r) s u v = rw (q, r) (omega arith)
one-ends a b c d p q (inl r) (inl s) u v = rw (r, s) (omega arith)
one-ends a b c d (inr p) (inl q) (inr r) s u v = let w = rw (p, q, r) at u in cc
one-ends a b c d (inl p) (inr q) (inl r) (inr s) u v = let w = rw (q, r, s) at v in cc
one-ends a b c d (inl p) (inr q) (inr r) s u v = let w = rw (p, q, r) at u in cc
one-ends a b c d (inr p) (inr q) (inl r) (inr s) u v = let w = rw (q, r, s) at v in cc
one-ends a b c d (inr p) (inr q) (inr r) s u v = let w = rw (p, q, r) at u in cc

-- a difference ends in octets where no escape stands within two behind another
pub some-end : (ms : List ℕ) → EachMark ms → Apart ms → 0 < ends_to ms 192
some-end ms each apart =
    let at = λ (k : ℕ). get_or ms k 0 in
    let one = one-ends (at 17) (at 18) (at 19) (at 20) (each 17 (omega arith)) (each 18 (omega arith)) (each 19 (omega arith))
    (each 20 (omega arith)) (apart 3 (omega arith)) (apart 4 (omega arith)) in
    omega (arith, one, ends_more ms 2, ends_more ms 3, ends_more ms 4, ends-least ms 5 187)

-- ---- what octets add

all_of : (x : ℕ) → x < 256 → bit_and x 255 ≡ x
all_of x h = and_mask x 8 ∙ omega arith

first_of : (x y : ℕ) → x < 256 → bit_or (bit_and x 255) (bit_and y 0) ≡ x
first_of x y h = ap (bit_or (bit_and x 255)) (and_zero_r y) ∙ or_zero_r (bit_and x 255) ∙ all_of x h

none_of : (x y : ℕ) → bit_or (bit_and x 0) (bit_and y 0) ≡ 0
none_of x y = ap₂ bit_or (and_zero_r x) (and_zero_r y)

second-of : (x y : ℕ) → y < 256 → bit_or (bit_and x 0) (bit_and y 255) ≡ y
second-of x y h = ap (λ (u : ℕ). bit_or u (bit_and y 255)) (and_zero_r x) ∙ all_of y h

pub chosen_is : (a b c x y : ℕ) → IsMark a → IsMark b → IsMark c → x < 256 → y < 256
    → bit_or (bit_and x (bit_xor 255 (bit_or (bit_or a b) c))) (bit_and y a) ≡ choose a b c x y
unfolding choose
chosen_is a b c x y (inl p) (inl q) (inl r) h k = rw (p, q, r) (first_of x y h)
chosen_is a b c x y (inl p) (inl q) (inr r) h k = rw (p, q, r) (none_of x y)
chosen_is a b c x y (inl p) (inr q) (inl r) h k = rw (p, q, r) (none_of x y)
chosen_is a b c x y (inl p) (inr q) (inr r) h k = rw (p, q, r) (none_of x y)
chosen_is a b c x y (inr p) (inl q) (inl r) h k = rw (p, q, r) (second-of x y k)
chosen_is a b c x y (inr p) (inl q) (inr r) h k = rw (p, q, r) (second-of x y k)
chosen_is a b c x y (inr p) (inr q) (inl r) h k = rw (p, q, r) (second-of x y k)
chosen_is a b c x y (inr p) (inr q) (inr r) h k = rw (p, q, r) (second-of x y k)

-- ---- arrays of 208 that are 0 at first

pub zeros : (k : ℕ) → k < 16 → ◌≡◌ {A = ℕ} (get_or (replicate 208 0) k 0) 0
zeros k h = get_or-replicate 208 k 0 0 (omega arith)

pub marked : (os : List ℕ) (i : ℕ) (ms : List ℕ) → Written (mark_at os i) 192 208 (replicate 208 0) ms → Marked os i ms
marked os i ms W = record { mark = W.is; none = λ k h. W.same k h ∙ zeros k h; long = W.long }

choose-small : (a b c x y : ℕ) → x < 256 → y < 256 → choose a b c x y < 256
unfolding choose
choose-small a b c x y h k = go (ltb 0 a) (ltb 0 (b + c))
  where
    go : (s t : Bool) → cond s y (cond t 0 x) < 256
    go true t = k
    go false true = omega arith
    go false false = h

sign_small : (o : ℕ) → sign_of o < 256
unfolding sign_of
sign_small o = go (ltb o 128)
  where
    go : (t : Bool) → cond t 0 255 < 256
    go true = omega arith
    go false = omega arith

pub addends : (os : List ℕ) (i : ℕ) (ms ds : List ℕ) → ((k : ℕ) → get_or os k 0 < 256) → Written (added_at os i ms) 192 208 (replicate 208 0) ds → Addends ds
addends os i ms ds octet W = record { none = λ k h. W.same k h ∙ zeros k h; number = number; long = W.long }
  where
    added : (j : ℕ) → j < 192 → get_or ds (16 + j) 0 < 65536
    added j h =
        let a = get_or ms (14 + j) 0 in
        let b = get_or ms (15 + j) 0 in
        let c = get_or ms (16 + j) 0 in
        let low = choose-small a b c (get_or os (i + j) 0) (get_or os (i + j - 1) 0) (octet (i + j)) (octet (i + j - 1)) in
        let high = choose-small a b c (sign_of (get_or os (i + j) 0)) (get_or os (i + j) 0) (sign_small (get_or os (i + j) 0)) (octet (i + j)) in
        omega (arith, W.is j h)

    number : (k : ℕ) → k < 208 → get_or ds k 0 < 65536
    number k h = go (ltb k 16) refl
      where
        go : (t : Bool) → ltb k 16 ≡ t → get_or ds k 0 < 65536
        go true q = let l = ltb-true k 16 q in omega (arith, W.same k l, zeros k l)
        go false q =
            let l = ltb-false k 16 q in
            let e : 16 + (k - 16) ≡ k = omega arith in
            subst (λ (m : ℕ). get_or ds m 0 < 65536) e (added (k - 16) (omega arith))
