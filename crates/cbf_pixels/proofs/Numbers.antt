-- Numbers as octets, read and written, at any count of octets. Assumes nothing.
use Prim.Native.Nat.{ℕ, zero, suc, ◌+◌, ◌*◌, ◌-◌, ◌/◌, ◌%◌, ◌^◌, ◌<◌, ◌≤◌}
use native.Mathlib.Omega.{arith}
use mathlib.Core.Path.{◌≡◌, refl, sym, ap, ◌∙◌, subst}
use mathlib.Core.List.{List}
use mathlib.Core.Bool.{Bool, true, false, cond}
use lib.Dec.{ltb}
use lib.ListN.{length, take, drop}
use lib.Seq.{length-take-le}
use lib.IntN.{ℤ, pos, negsuc, nat_abs}
use lib.Signed.{mag}
use borrow.Author.Tests.{lt-ltb, le-ltb, ltb-true, ltb-false}
use Rattle.cbf_pixels.specs.Octets.{number, octets, half, signed, bits, Octets, no_octet, octet}

pub number_lt : {os : List ℕ} → Octets os → number os < 256 ^ length os
unfolding number
number_lt no_octet = omega arith
number_lt (octet {o = o} {os = os} h r) =
    let i = number_lt r in
    let g : o + 256 * number os < 256 ^ suc (length os) = omega arith in
    g

pub octets-number : {os : List ℕ} → Octets os → octets (length os) (number os) ≡ os
unfolding number octets
octets-number no_octet = refl
octets-number (octet {o = o} {os = os} h r) =
    let a : (o + 256 * number os) % 256 ≡ o = omega arith in
    let b : (o + 256 * number os) / 256 ≡ number os = omega arith in
    rw (a, b, octets-number r)

pub number-octets : (k n : ℕ) → n < 256 ^ k → number (octets k n) ≡ n
unfolding number octets
number-octets zero n h = omega arith
number-octets (suc k) n h =
    let i = number-octets k (n / 256) (omega arith) in
    omega arith

pub length-octets : (k n : ℕ) → length (octets k n) ≡ k
unfolding octets
length-octets zero n = refl
length-octets (suc k) n = ap suc (length-octets k (n / 256))

pub octets-are : (k n : ℕ) → Octets (octets k n)
unfolding octets
octets-are zero n = no_octet
octets-are (suc k) n = let h : n % 256 < 256 = omega arith in octet h (octets-are k (n / 256))

pub octets-take : (k : ℕ) {os : List ℕ} → Octets os → Octets (take k os)
octets-take zero r = no_octet
octets-take (suc k) no_octet = no_octet
octets-take (suc k) (octet h r) = octet h (octets-take k r)

pub octets-drop : (k : ℕ) {os : List ℕ} → Octets os → Octets (drop k os)
octets-drop zero r = r
octets-drop (suc k) no_octet = no_octet
octets-drop (suc k) (octet h r) = octets-drop k r

-- the first k octets are those of their number
pub taken-lt : (k : ℕ) {os : List ℕ} → k ≤ length os → Octets os → number (take k os) < 256 ^ k
taken-lt k {os} h r = subst (λ (m : ℕ). number (take k os) < 256 ^ m) (length-take-le k os h) (number_lt (octets-take k r))

pub octets-taken : (k : ℕ) {os : List ℕ} → k ≤ length os → Octets os → octets k (number (take k os)) ≡ take k os
octets-taken k {os} h r =
    ap (λ (m : ℕ). octets m (number (take k os))) (sym (length-take-le k os h)) ∙ octets-number (octets-take k r)

pub power_pos : (k : ℕ) → 0 < 256 ^ k
power_pos zero = omega arith
power_pos (suc k) = let i = power_pos k in omega arith

-- ---- two's complement

pub bits-signed : (k n : ℕ) → n < 256 ^ k → bits k (signed k n) ≡ n
unfolding signed bits
bits-signed k n h = go (ltb n (half k))
  where
    go : (b : Bool) → bits k (cond b (pos n) (negsuc (256 ^ k - suc n))) ≡ n
    go true = refl
    go false = omega arith

pub signed-bits : (k : ℕ) (d : ℤ) → mag d < half k → signed k (bits k d) ≡ d
unfolding signed bits half
signed-bits k (pos n) h = rw (lt-ltb n (256 ^ k / 2) h)
signed-bits k (negsuc n) h =
    let a : 256 ^ k - suc (256 ^ k - suc n) ≡ n = omega arith in
    rw (le-ltb (256 ^ k - suc n) (256 ^ k / 2) (omega arith), a)

pub bits-lt : (k : ℕ) (d : ℤ) → mag d < half k → bits k d < 256 ^ k
unfolding bits half
bits-lt k (pos n) h = omega arith
bits-lt k (negsuc n) h = omega arith

-- a difference that a width holds is not the width's escape
pub bits-ne : (k : ℕ) (d : ℤ) → nat_abs d < half k → bits k d ≡ half k → ⊥
unfolding bits half
bits-ne k (pos n) h e = omega arith
bits-ne k (negsuc n) h e = omega arith

-- what is read at a width, but for the escape, is a difference that the width holds
pub signed_lt : (k n : ℕ) → 0 < k → n < 256 ^ k → (n ≡ half k → ⊥) → nat_abs (signed k n) < half k
unfolding signed half
signed_lt zero n p h e = omega arith
signed_lt (suc k) n p h e = go (ltb n (half (suc k))) refl
  where
    go : (b : Bool) → ltb n (half (suc k)) ≡ b → nat_abs (cond b (pos n) (negsuc (256 ^ suc k - suc n))) < half (suc k)
    go true q = ltb-true n (half (suc k)) q
    go false q = let u = ltb-false n (half (suc k)) q in omega arith

pub mag-le : (d : ℤ) → mag d ≤ nat_abs d
mag-le (pos n) = omega arith
mag-le (negsuc n) = omega arith

pub abs-le : (d : ℤ) {B : ℕ} → mag d < B → nat_abs d ≤ B
abs-le (pos n) h = omega arith
abs-le (negsuc n) h = h
