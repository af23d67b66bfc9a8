-- Reading and packing one difference, for any list of widths. Assumes nothing.
use Prim.Native.Nat.{ℕ, zero, suc, ◌^◌, ◌<◌}
use native.Mathlib.Omega.{arith}
use mathlib.Core.Path.{◌≡◌, refl, sym, ap, ◌∙◌}
use mathlib.Core.List.{List, [], ◌∷◌, ◌++◌, append_assoc}
use mathlib.Core.Bool.{Bool, true, false, cond}
use lib.Dec.{ltb}
use lib.ListN.{length, length-append}
use lib.Seq.{take_at, drop_at}
use lib.IntN.{ℤ, nat_abs}
use lib.Signed.{mag}
use borrow.Author.Tests.{ltb-true, le-leb, lt-leb, eq-eqb, ne_eqb}
use Rattle.cbf_pixels.specs.Octets.{number, octets, half, signed, bits}
use Rattle.cbf_pixels.specs.Pixels.{run_out, got, read_by, pack_by}
use Rattle.cbf_pixels.proofs.Numbers.{number-octets, length-octets, signed-bits, bits-lt, bits-ne, mag-le}
use Rattle.cbf_pixels.proofs.Numbers.{power_pos}

-- ---- the three ways that reading goes at a width k

pub read-cut : (k : ℕ) (ks os : List ℕ) → length os < k → read_by (k ∷ ks) os ≡ run_out
unfolding read_by
read-cut k [] os h = rw (lt-leb k (length os) h)
read-cut k (j ∷ ks) os h = rw (lt-leb k (length os) h)

pub read-last : (k : ℕ) (xs os : List ℕ) → length xs ≡ k → read_by (k ∷ []) (xs ++ os) ≡ got (signed k (number xs)) os
unfolding read_by
read-last k xs os e =
    rw (le-leb k (length (xs ++ os)) (omega (arith, length-append xs os)), take_at xs os k e, drop_at xs os k e)

pub read_here : (k j : ℕ) (ks xs os : List ℕ) → length xs ≡ k → (number xs ≡ half k → ⊥) → read_by (k ∷ j ∷ ks) (xs ++ os) ≡ got (signed k (number xs)) os
unfolding read_by
read_here k j ks xs os e n =
    rw (le-leb k (length (xs ++ os)) (omega (arith, length-append xs os)), take_at xs os k e, drop_at xs os k e, ne_eqb (number xs) (half k) n)

pub read-on : (k j : ℕ) (ks xs os : List ℕ) → length xs ≡ k → number xs ≡ half k → read_by (k ∷ j ∷ ks) (xs ++ os) ≡ read_by (j ∷ ks) os
unfolding read_by
read-on k j ks xs os e n =
    rw (le-leb k (length (xs ++ os)) (omega (arith, length-append xs os)), take_at xs os k e, drop_at xs os k e, eq-eqb (number xs) (half k) n)

-- ---- what is packed is read back

-- d is a number of the last width
abbrev pub FitsBy : List ℕ → ℤ → Type 0
FitsBy [] d = ⊥
FitsBy (k ∷ []) d = mag d < half k
FitsBy (k ∷ j ∷ ks) d = FitsBy (j ∷ ks) d

half_lt : (k : ℕ) → half k < 256 ^ k
unfolding half
half_lt zero = omega arith
half_lt (suc k) = omega (arith, power_pos k)

pub read-pack : (ks : List ℕ) (d : ℤ) (os : List ℕ) → FitsBy ks d → read_by ks (pack_by ks d ++ os) ≡ got d os
unfolding pack_by
read-pack [] d os h = absurd h
read-pack (k ∷ []) d os h =
    read-last k (octets k (bits k d)) os (length-octets k (bits k d))
    ∙ ap (λ (z : ℤ). got z os) (ap (signed k) (number-octets k (bits k d) (bits-lt k d h)) ∙ signed-bits k d h)
read-pack (k ∷ j ∷ ks) d os h = go (ltb (nat_abs d) (half k)) refl (read-pack (j ∷ ks) d os h)
  where
    go : (b : Bool) → ltb (nat_abs d) (half k) ≡ b → read_by (j ∷ ks) (pack_by (j ∷ ks) d ++ os) ≡ got d os
        → read_by (k ∷ j ∷ ks) (cond b (octets k (bits k d)) (octets k (half k) ++ pack_by (j ∷ ks) d) ++ os) ≡ got d os
    go true q ih =
        let s = ltb-true (nat_abs d) (half k) q in
        let m : mag d < half k = omega (arith, mag-le d) in
        let n = number-octets k (bits k d) (bits-lt k d m) in
        read_here k j ks (octets k (bits k d)) os (length-octets k (bits k d)) (λ e. bits-ne k d s (sym n ∙ e))
        ∙ ap (λ (z : ℤ). got z os) (ap (signed k) n ∙ signed-bits k d m)
    go false q ih =
        rw (append_assoc (octets k (half k)) (pack_by (j ∷ ks) d) os)
        (read-on k j ks (octets k (half k)) (pack_by (j ∷ ks) d ++ os) (length-octets k (half k)) (number-octets k (half k) (half_lt k)) ∙ ih)
