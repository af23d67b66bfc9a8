-- The decimal digits of a number: how many they are, and that they are the last digits of the number. Assumes nothing.
use mathlib.Core.Path.{◌≡◌, refl, ap, ◌∙◌, sym}
use mathlib.Core.Bool.{Bool, true, false}
use mathlib.Core.List.{List, [], ◌∷◌, ◌++◌}
use Prim.Native.Nat.{ℕ, zero, suc, ◌+◌, ◌/◌, ◌%◌, ◌^◌, ◌≤◌, ◌<◌}
use native.Mathlib.Nat.{mod-eq_of_lt, pow-suc}
use native.Mathlib.Omega.{arith}
use borrow.Author.Tests.{lt-ltb, le-ltb, ltb-true, ltb-false}
use lib.Dec.{ltb}
use lib.ListN.{length, length-append, set}
use lib.Seq.{sets}
use Rattle.cbf_format.specs.Listing.{digits_of}
use Rattle.cbf_write.proofs.PutLaws.{last-first}

-- ---- one digit more

pub digits-one : (f n : ℕ) → n < 10 → digits_of (suc f) n ≡ (48 + n) ∷ []
unfolding digits_of
digits-one f n h = rw (lt-ltb n 10 h)

pub digits_more : (f n : ℕ) → 10 ≤ n → digits_of (suc f) n ≡ digits_of f (n / 10) ++ ((48 + n % 10) ∷ [])
unfolding digits_of
digits_more f n h = rw (le-ltb n 10 h)

-- ---- the last k digits, with leading zeros where the number has fewer

unfoldable pub last_digits : ℕ → ℕ → List ℕ
last_digits zero n = []
last_digits (suc k) n = last_digits k (n / 10) ++ ((48 + n % 10) ∷ [])

pub length_last : (k n : ℕ) → length (last_digits k n) ≡ k
unfolding last_digits
length_last zero n = refl
length_last (suc k) n = omega (arith, length-append (last_digits k (n / 10)) ((48 + n % 10) ∷ []), length_last k (n / 10))

pub digits_last : (f n : ℕ) → digits_of f n ≡ last_digits (length (digits_of f n)) n
unfolding last_digits digits_of
digits_last zero n = refl
digits_last (suc f) n = go (ltb n 10) refl (digits_last f (n / 10))
  where
    go : (t : Bool) → ltb n 10 ≡ t → digits_of f (n / 10) ≡ last_digits (length (digits_of f (n / 10))) (n / 10)
        → digits_of (suc f) n ≡ last_digits (length (digits_of (suc f) n)) n
    go true e i =
        let h : n < 10 = ltb-true n 10 e in
        rw (digits-one f n h, mod-eq_of_lt h)
    go false e i =
        let r = digits_of f (n / 10) in
        let d = (48 + n % 10) ∷ [] in
        let z : length (r ++ d) ≡ suc (length r) = omega (arith, length-append r d) in
        digits_more f n (ltb-false n 10 e)
        ∙ ap (λ (l : List ℕ). l ++ d) i
        ∙ ap (λ (k : ℕ). last_digits k n) (sym (ap length (digits_more f n (ltb-false n 10 e)) ∙ z))

-- the last of the digits that are left is stored: a turn of a loop that writes them from the last to the first
pub digit-put : (out : List ℕ) (at k rest : ℕ)
    → sets (set out (at + k) (48 + rest % 10)) at (last_digits k (rest / 10)) ≡ sets out at (last_digits (suc k) rest)
unfolding last_digits
digit-put out at k rest =
    ap (λ (j : ℕ). sets (set out (at + j) (48 + rest % 10)) at (last_digits k (rest / 10))) (sym (length_last k (rest / 10)))
    ∙ last-first out (last_digits k (rest / 10)) at (48 + rest % 10)

-- ---- counting the digits

-- k digits of n are counted, the first of them as the last digit of rest; n has at most limit digits, and left more
-- can come
pub record Counted (limit n k rest : ℕ) : Type 0 where
  pub left : ℕ
  pub enough : k + left ≡ limit
  pub small : rest < 10 ^ suc left
  pub counts : k + length (digits_of (suc left) rest) ≡ suc (length (digits_of limit n))

pub counted_none : (left n : ℕ) → n < 10 ^ suc left → Counted (suc left) n 1 n
counted_none left n h = record { left = left; enough = omega arith; small = h; counts = omega arith }

pub counted-more : {limit n k rest : ℕ} → Counted limit n k rest → 10 ≤ rest → Counted limit n (k + 1) (rest / 10)
counted-more {limit} {n} {k} {rest} c h = go c.left c.enough c.small c.counts
  where
    go : (left : ℕ) → k + left ≡ limit → rest < 10 ^ suc left → k + length (digits_of (suc left) rest) ≡ suc (length (digits_of limit n))
        → Counted limit n (k + 1) (rest / 10)
    go zero e s q = absurd (omega arith)
    go (suc left) e s q =
        let r = digits_of (suc left) (rest / 10) in
        let d = (48 + rest % 10) ∷ [] in
        let m : length (digits_of (suc (suc left)) rest) ≡ length r + 1 = ap length (digits_more (suc left) rest h) ∙ length-append r d in
        record { left = left; enough = omega arith; small = omega (arith, pow-suc 10 (suc left)); counts = omega arith }

pub counted-all : {limit n k rest : ℕ} → Counted limit n k rest → rest < 10 → (k ≡ length (digits_of limit n)) × (k ≤ limit)
counted-all {limit} {n} {k} {rest} c h =
    let o : length (digits_of (suc c.left) rest) ≡ 1 = ap length (digits-one c.left rest h) in
    (omega arith, omega arith)
