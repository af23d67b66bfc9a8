-- Uncompressed pixels, written and read, and read and written, at every width. Assumes nothing.
use Prim.Native.Nat.{ℕ, zero, suc, ◌-◌, ◌/◌, ◌^◌, ◌<◌}
use native.Mathlib.Omega.{arith}
use mathlib.Core.Path.{◌≡◌, refl, sym, ap, ap₂, ◌∙◌}
use mathlib.Core.List.{List, [], ◌∷◌, ◌++◌}
use mathlib.Core.Bool.{Bool, true, false, cond}
use Rattle.std.specs.Prelude.{Option, None, Some}
use Rattle.std.specs.Prelude.{option_map}
use lib.Dec.{leb}
use lib.ListN.{length, take, drop, length-append, take-append-drop}
use lib.Seq.{take_at, drop_at}
use lib.IntN.{ℤ, pos, negsuc}
use lib.Signed.{mag, le_z}
use borrow.Author.Tests.{le-leb, leb-true}
use Rattle.cbf_pixels.specs.declared.ElementType.{ElementType}
use Rattle.cbf_pixels.specs.declared.ElementType.TheVariants.{U8, S8, U16, S16, U32, S32}
use Rattle.cbf_pixels.specs.Octets.{number, octets, half, bits, Octets}
use Rattle.cbf_pixels.specs.Pixels.{within, all_within, least, greatest}
use Rattle.cbf_pixels.specs.Uncompressed.{octets_per, is_signed, pixel_of, read_pixels, write_pixels}
use Rattle.cbf_pixels.specs.Uncompressed.{unpack_uncompressed, pack_uncompressed}
use Rattle.cbf_pixels.proofs.Integers.{cond-left, cond-right, never}
use Rattle.cbf_pixels.proofs.Numbers.{number-octets, length-octets, signed-bits, bits-lt, bits-signed}
use Rattle.cbf_pixels.proofs.Numbers.{taken-lt, octets-taken, octets-drop, power_pos}

-- a pixel that k octets hold, in a signed type or not
abbrev pub Holds : Bool → ℕ → ℤ → Type 0
Holds true k z = mag z < half k
Holds false k (pos n) = n < 256 ^ k
Holds false k (negsuc n) = ⊥

abbrev pub AllHold : Bool → ℕ → List ℤ → Type 0
AllHold s k [] = Unit {0}
AllHold s k (z ∷ zs) = Holds s k z × AllHold s k zs

module _ (k : ℕ) where
  held-lt : (s : Bool) (z : ℤ) → Holds s k z → bits k z < 256 ^ k
  unfolding bits
  held-lt true z h = bits-lt k z h
  held-lt false (pos n) h = h
  held-lt false (negsuc n) h = absurd h

  held : (s : Bool) (z : ℤ) → Holds s k z → pixel_of s k (bits k z) ≡ z
  unfolding pixel_of bits
  held true z h = signed-bits k z h
  held false (pos n) h = refl
  held false (negsuc n) h = absurd h

  numbered : (s : Bool) (n : ℕ) → n < 256 ^ k → bits k (pixel_of s k n) ≡ n
  unfolding pixel_of bits
  numbered true n h = bits-signed k n h
  numbered false n h = refl

  -- written and read
  pub read-written : (s : Bool) (ps : List ℤ) → AllHold s k ps → read_pixels s k (length ps) (write_pixels k ps) ≡ Some ps
  unfolding read_pixels write_pixels
  read-written s [] h = refl
  read-written s (p ∷ ps) h =
      let xs = octets k (bits k p) in
      let l = length-octets k (bits k p) in
      let n : pixel_of s k (number xs) ≡ p = ap (pixel_of s k) (number-octets k (bits k p) (held-lt s p h.0)) ∙ held s p h.0 in
      rw (
        le-leb k (length (xs ++ write_pixels k ps)) (omega (arith, length-append xs (write_pixels k ps))),
        take_at xs
            (write_pixels k ps) k l,
        drop_at xs (write_pixels k ps) k l,
        read-written s ps h.1,
        n,
      )

  -- read and written
  pub written_read : (s : Bool) (n : ℕ) (os : List ℕ) (ps : List ℤ) → Octets os → read_pixels s k n os ≡ Some ps → write_pixels k ps ≡ os
  unfolding read_pixels write_pixels
  written_read s zero [] ps r e = let q : [] ≡ ps = cc in ap (write_pixels k) (sym q)
  written_read s zero (o ∷ os) ps r e = let z : ◌≡◌ {A = ℕ} 0 1 = cc in absurd (omega arith)
  written_read s (suc n) os ps r e = go (leb k (length os)) refl (read_pixels s k n (drop k os)) (λ qs q. written_read s n (drop k os) qs (octets-drop k r) q) e
    where
      p : ℤ
      p = pixel_of s k (number (take k os))

      go : (b : Bool) → leb k (length os) ≡ b → (o : Option (List ℤ)) → ((qs : List ℤ) → o ≡ Some qs → write_pixels k qs ≡ drop k os)
          → cond b (option_map (λ (qs : List ℤ). p ∷ qs) o) None ≡ Some ps → write_pixels k ps ≡ os
      go true h (Some qs) ih e' =
          let q : p ∷ qs ≡ ps = cc in
          ap (write_pixels k) (sym q)
          ∙ ap₂ ◌++◌ (ap (octets k) (numbered s (number (take k os)) (taken-lt k (leb-true k (length os) h) r))
          ∙ octets-taken k (leb-true k (length os) h) r) (ih qs refl)
          ∙ take-append-drop k os
      go true h None ih e' = let z : ◌≡◌ {A = ℕ} 0 1 = cc in absurd (omega arith)
      go false h o ih e' = let z : ◌≡◌ {A = ℕ} 0 1 = cc in absurd (omega arith)

-- ---- the six types

-- the bounds of the signed or unsigned type of k octets
lowest : Bool → ℕ → ℤ
lowest true k = negsuc (half k - 1)
lowest false k = pos 0

highest : Bool → ℕ → ℤ
highest true k = pos (half k - 1)
highest false k = pos (256 ^ k - 1)

hold : (s : Bool) (k : ℕ) (z : ℤ) → 0 < k → le_z (lowest s k) z ≡ true → le_z z (highest s k) ≡ true → Holds s k z
unfolding half lowest highest
hold s zero z h p q = let y : ⊥ = omega arith in absurd y
hold true (suc k) (pos n) h p q = omega (arith, leb-true n (256 ^ suc k / 2 - 1) q, power_pos k)
hold true (suc k) (negsuc n) h p q = omega (arith, leb-true n (256 ^ suc k / 2 - 1) p, power_pos k)
hold false (suc k) (pos n) h p q = omega (arith, leb-true n (256 ^ suc k - 1) q, power_pos k)
hold false (suc k) (negsuc n) h p q = never p

record Bounded (t : ElementType) : Type 0 where
  least_is : least t ≡ lowest (is_signed t) (octets_per t)
  greatest_is : greatest t ≡ highest (is_signed t) (octets_per t)
  some_octet : 0 < octets_per t

bounded : (t : ElementType) → Bounded t
unfolding lowest highest half
bounded U8 = record { least_is = refl; greatest_is = refl; some_octet = omega arith }
bounded S8 = record { least_is = refl; greatest_is = refl; some_octet = omega arith }
bounded U16 = record { least_is = refl; greatest_is = refl; some_octet = omega arith }
bounded S16 = record { least_is = refl; greatest_is = refl; some_octet = omega arith }
bounded U32 = record { least_is = refl; greatest_is = refl; some_octet = omega arith }
bounded S32 = record { least_is = refl; greatest_is = refl; some_octet = omega arith }

pub has-octets : (t : ElementType) → 0 < octets_per t
has-octets t = (bounded t).some_octet

holds_of : (t : ElementType) (z : ℤ) → within (least t) (greatest t) z ≡ true → Holds (is_signed t) (octets_per t) z
unfolding within
holds_of t z e =
    let B = bounded t in
    hold (is_signed t) (octets_per t) z B.some_octet
    (ap (λ (lo : ℤ). le_z lo z) (sym B.least_is) ∙ cond-left (le_z (least t) z) (le_z z (greatest t)) e)
    (ap (le_z z) (sym B.greatest_is) ∙ cond-right (le_z (least t) z) (le_z z (greatest t)) e)

all_hold : (t : ElementType) (ps : List ℤ) → all_within (least t) (greatest t) ps ≡ true → AllHold (is_signed t) (octets_per t) ps
unfolding all_within
all_hold t [] e = tt
all_hold t (p ∷ ps) e = (
  holds_of t p (cond-left (within (least t) (greatest t) p) (all_within (least t) (greatest t) ps) e),
  all_hold t ps
      (cond-right (within (least t) (greatest t) p) (all_within (least t) (greatest t) ps) e),
)

pub unpack-pack : (t : ElementType) (ps : List ℤ) → all_within (least t) (greatest t) ps ≡ true → unpack_uncompressed t
    (length ps) (pack_uncompressed t ps) ≡ Some ps
unfolding unpack_uncompressed pack_uncompressed
unpack-pack t ps e = read-written (octets_per t) (is_signed t) ps (all_hold t ps e)

pub pack-unpack : (t : ElementType) (n : ℕ) (os : List ℕ) (ps : List ℤ) → Octets os → unpack_uncompressed t n os ≡ Some ps → pack_uncompressed t ps ≡ os
unfolding unpack_uncompressed pack_uncompressed
pack-unpack t n os ps r e = written_read (octets_per t) (is_signed t) n os ps r e
