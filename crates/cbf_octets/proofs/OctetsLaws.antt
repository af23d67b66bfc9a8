-- Little-endian numbers at an index of a list: read in two parts, and read and stored by the library's methods. Assumes
-- nothing.
use Prim.Native.Nat.{ℕ, zero, suc, ◌+◌, ◌-◌, ◌*◌, ◌/◌, ◌%◌, ◌^◌, ◌<◌, ◌≤◌}
use native.Mathlib.Omega.{arith}
use native.Mathlib.Nat.{suc-add, div-div-eq-div-mul}
use mathlib.Core.Path.{◌≡◌, refl, sym, ap, ap₂, ◌∙◌}
use mathlib.Core.List.{List, [], ◌∷◌, ◌++◌, append_assoc}
use lib.ListN.{length, take, drop, get_or, length-drop}
use lib.Seq.{sets, sets-eq, take-add, drop-drop, drop-cons, length-take-le}
use borrow.Rule.Slice.PartMut.{put_mid}
use Rattle.std.specs.Int.{w16, w32, w64, to_le_bytes, from_le_bytes}
use Rattle.std.proofs.lemmas.List.{take_at}
use Rattle.cbf_pixels.specs.Octets.{number, octets}
use Rattle.cbf_pixels.proofs.Numbers.{length-octets}

-- ---- reading

pub number_append : (a b : List ℕ) → number (a ++ b) ≡ number a + 256 ^ length a * number b
unfolding number
number_append [] b = omega arith
number_append (o ∷ a) b =
    let i = number_append a b in
    let e : 256 ^ suc (length a) ≡ 256 * 256 ^ length a = omega arith in
    let g : o + 256 * number (a ++ b) ≡ o + 256 * number a + 256 * 256 ^ length a * number b = omega arith in
    g ∙ ap (λ (m : ℕ). o + 256 * number a + m * number b) (sym e)

-- the number of one octet at i
pub number-one : (i : ℕ) (os : List ℕ) → i < length os → number (take 1 (drop i os)) ≡ get_or os i 0
unfolding number
number-one i os h = ap (λ (l : List ℕ). number (take 1 l)) (drop-cons os i 0 h) ∙ omega arith

-- the number of the m + n octets at i, from the m first and the n after them
pub number-parts : (m n i : ℕ) (os : List ℕ) → i + m ≤ length os → number (take (m + n) (drop i os))
    ≡ number (take m (drop i os)) + 256 ^ m * number (take n (drop (i + m) os))
number-parts m n i os h =
    let l : length (take m (drop i os)) ≡ m = length-take-le m (drop i os) (omega (arith, length-drop i os)) in
    ap number (take-add m n (drop i os))
    ∙ number_append (take m (drop i os)) (take n (drop m (drop i os)))
    ∙ ap₂ (λ (k : ℕ) (l : List ℕ). number (take m (drop i os)) + 256 ^ k * number (take n l)) l (drop-drop m i os)

pub octets-add : (j k n : ℕ) → octets (j + k) n ≡ octets j n ++ octets k (n / 256 ^ j)
unfolding octets
octets-add zero k n =
    let a : 0 + k ≡ k = omega arith in
    let b : n ≡ n / 256 ^ 0 = omega arith in
    ap₂ octets a b
octets-add (suc j) k n =
    let e : 256 ^ suc j ≡ 256 * 256 ^ j = omega arith in
    let d : n / 256 / 256 ^ j ≡ n / 256 ^ suc j = div-div-eq-div-mul n 256 (256 ^ j) ∙ ap (λ (m : ℕ). n / m) (sym e) in
    ap (λ (m : ℕ). octets m n) (suc-add j k)
    ∙ ap (λ (l : List ℕ). n % 256 ∷ l) (octets-add j k (n / 256) ∙ ap (λ (m : ℕ). octets j (n / 256) ++ octets k m) d)

-- ---- by the library's methods

number-at : (bs : List ℕ) (j : ℕ) → j < length bs → number (drop j bs) ≡ get_or bs j 0 + 256 * number (drop (suc j) bs)
unfolding number
number-at bs j h = ap number (drop-cons bs j 0 h)

number-end : (bs : List ℕ) (j : ℕ) → length bs ≡ j → number (drop j bs) ≡ 0
unfolding number
number-end [] zero h = refl
number-end [] (suc j) h = let y : ⊥ = omega arith in absurd y
number-end (b ∷ bs) zero h = let y : ⊥ = omega arith in absurd y
number-end (b ∷ bs) (suc j) h = number-end bs j (omega arith)

pub number-2 : (bs : List ℕ) → length bs ≡ 2 → from_le_bytes w16 bs ≡ number bs
number-2 bs h = omega (arith, number-at bs 0 (omega arith), number-at bs 1 (omega arith), number-end bs 2 h)

pub number-4 : (bs : List ℕ) → length bs ≡ 4 → from_le_bytes w32 bs ≡ number bs
number-4 bs h =
    omega (
      arith,
      number-at bs 0 (omega arith),
      number-at bs 1 (omega arith),
      number-at bs 2 (omega arith),
      number-at bs 3 (omega arith),
      number-end bs 4 h,
    )

pub number-8 : (bs : List ℕ) → length bs ≡ 8 → from_le_bytes w64 bs ≡ number bs
number-8 bs h =
    omega (
      arith,
      number-at bs 0 (omega arith),
      number-at bs 1 (omega arith),
      number-at bs 2 (omega arith),
      number-at bs 3 (omega arith),
      number-at bs 4 (omega arith),
      number-at bs 5 (omega arith),
      number-at bs 6 (omega arith),
      number-at bs 7 (omega arith),
      number-end bs 8 h,
    )

pub length-chunk : (k i : ℕ) (os bs : List ℕ) → bs ≡ take k (drop i os) → i + k ≤ length os → length bs ≡ k
length-chunk k i os bs e h = ap length e ∙ length-take-le k (drop i os) (omega (arith, length-drop i os))

low-octets : (n : ℕ) → to_le_bytes w64 n ≡ octets 8 n
unfolding octets
low-octets n =
    let d2 : n / 256 / 256 ≡ n / 65536 = div-div-eq-div-mul n 256 256 in
    let d3 : n / 256 / 256 / 256 ≡ n / 16777216 = ap (λ (m : ℕ). m / 256) d2 ∙ div-div-eq-div-mul n 65536 256 in
    let d4 : n / 256 / 256 / 256 / 256 ≡ n / 4294967296 = ap (λ (m : ℕ). m / 256) d3 ∙ div-div-eq-div-mul n 16777216 256 in
    let d5 : n / 256 / 256 / 256 / 256 / 256 ≡ n / 1099511627776 = ap (λ (m : ℕ). m / 256) d4 ∙ div-div-eq-div-mul n 4294967296 256 in
    let d6 : n / 256 / 256 / 256 / 256 / 256 / 256 ≡ n / 281474976710656 = ap (λ (m : ℕ). m / 256) d5 ∙ div-div-eq-div-mul n 1099511627776 256 in
    let d7 : n / 256 / 256 / 256 / 256 / 256 / 256 / 256 ≡ n / 72057594037927936 = ap (λ (m : ℕ). m / 256) d6
    ∙ div-div-eq-div-mul n 281474976710656 256 in
    rw (d7, d6, d5, d4, d3, d2)

pub octets-low : (k n : ℕ) → k ≤ 8 → take k (to_le_bytes w64 n) ≡ octets k n
octets-low k n h =
    let j : k + (8 - k) ≡ 8 = omega arith in
    ap (take k) (low-octets n)
    ∙ ap (λ (m : ℕ). take k (octets m n)) (sym j)
    ∙ ap (take k) (octets-add k (8 - k) n)
    ∙ take_at (octets k n) (octets (8 - k) (n / 256 ^ k)) k (length-octets k n)

-- the k octets of n, copied to i on
pub copied : (l : List ℕ) (i k m n : ℕ) (ys : List ℕ) → i + k ≤ length l → m ≡ k → ys ≡ octets k n → put_mid i m l ys ≡ sets l i (octets k n)
copied l i k m n ys h e q =
    let o = length-octets k n in
    let d : drop m (drop i l) ≡ drop (i + length (octets k n)) l = drop-drop m i l ∙ ap (λ (j : ℕ). drop j l) (omega (arith, o)) in
    ap₂ (λ (a b : List ℕ). take i l ++ (a ++ b)) q d
    ∙ sym (append_assoc (take i l) (octets k n) (drop (i + length (octets k n)) l))
    ∙ sym (sets-eq (octets k n) l i (omega (arith, o)))
