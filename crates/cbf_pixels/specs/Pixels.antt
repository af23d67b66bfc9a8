-- Byte-offset pixels: what octets stand for, and the octets that packing writes. Document 01, "Pixels".
use Rattle.std.specs.Prelude.{ℕ, zero, suc, ◌≤◌, ◌≡◌, List, [], ◌∷◌, ◌++◌, Bool, true, false, cond, ltb, leb, eqb, length, take, drop, ℤ, pos, negsuc, nat_abs, ◌+ℤ◌, ◌-ℤ◌}
use Rattle.std.specs.Prelude.{Option, None, Some}
use Rattle.std.specs.Prelude.{option_map}
use Rattle.std.specs.Int.Signed.{le_z}
use Rattle.cbf_pixels.specs.Octets.{number, octets, half, signed, bits, Octets}
use Rattle.cbf_pixels.specs.declared.ElementType.{ElementType}
use Rattle.cbf_pixels.specs.declared.ElementType.TheVariants.{U8, S8, U16, S16, U32, S32}

-- ---- "six integer element types": unsigned or signed, 8, 16 or 32 bits

abbrev pub least : ElementType → ℤ
least U8 = pos 0
least S8 = negsuc 127
least U16 = pos 0
least S16 = negsuc 32767
least U32 = pos 0
least S32 = negsuc 2147483647

abbrev pub greatest : ElementType → ℤ
greatest U8 = pos 255
greatest S8 = pos 127
greatest U16 = pos 65535
greatest S16 = pos 32767
greatest U32 = pos 4294967295
greatest S32 = pos 2147483647

unfoldable pub within : ℤ → ℤ → ℤ → Bool
within lo hi z = cond (le_z lo z) (le_z z hi) false

unfoldable pub all_within : ℤ → ℤ → List ℤ → Bool
unfolding within
all_within lo hi [] = true
all_within lo hi (z ∷ zs) = cond (within lo hi z) (all_within lo hi zs) false

-- ---- One difference. "One octet for -127 to 127. Else 80 and two octets .. Else 80 00 80 and four octets .. Else
-- 80 00 80 00 00 00 80 and eight octets": the widths that may hold it, in octets, narrowest first. The least number
-- of a width but the last stands for no difference: it says that the next width holds it.

unfoldable pub widths : List ℕ
widths = 1 ∷ 2 ∷ 4 ∷ 8 ∷ []

-- a difference and the octets after it, or that the octets run out
pub data Read : Type 0 where
  run_out : Read
  got : ℤ → List ℕ → Read

-- "unpacking takes any": the widths are tried in turn
unfoldable pub read_by : List ℕ → List ℕ → Read
unfolding number half signed
read_by [] os = run_out
read_by (k ∷ []) os = cond (leb k (length os)) (got (signed k (number (take k os))) (drop k os)) run_out
read_by (k ∷ j ∷ ks) os =
    cond (leb k (length os))
    (cond (eqb (number (take k os)) (half k)) (read_by (j ∷ ks) (drop k os)) (got (signed k (number (take k os))) (drop k os)))
    run_out

-- "packing uses the shortest"
unfoldable pub pack_by : List ℕ → ℤ → List ℕ
unfolding half bits octets
pack_by [] d = []
pack_by (k ∷ []) d = octets k (bits k d)
pack_by (k ∷ j ∷ ks) d = cond (ltb (nat_abs d) (half k)) (octets k (bits k d)) (octets k (half k) ++ pack_by (j ∷ ks) d)

unfoldable pub pack_difference : ℤ → List ℕ
unfolding widths pack_by
pack_difference d = pack_by widths d

-- ---- Pixels. "Start from 0; each pixel is the last one plus a signed little-endian difference", and unpacking fails
-- "if octets run out or remain, or a pixel leaves its type's range": from lo to hi.

pub data Next : Type 0 where
  fails : Next
  pixel : ℤ → List ℕ → Next

-- the pixel after z, from the difference that was read
unfoldable pub add_difference : ℤ → ℤ → ℤ → Read → Next
unfolding within
add_difference lo hi z run_out = fails
add_difference lo hi z (got d os) = cond (within lo hi (z +ℤ d)) (pixel (z +ℤ d) os) fails

unfoldable pub next_pixel : ℤ → ℤ → ℤ → List ℕ → Next
unfolding add_difference read_by widths
next_pixel lo hi z os = add_difference lo hi z (read_by widths os)

unfoldable pub follow : Next → (ℤ → List ℕ → Option (List ℤ)) → Option (List ℤ)
follow fails go = None
follow (pixel p os) go = option_map (λ (ps : List ℤ). p ∷ ps) (go p os)

-- the n pixels after z
unfoldable pub unpack_from : ℤ → ℤ → ℤ → ℕ → List ℕ → Option (List ℤ)
unfolding next_pixel follow
unpack_from lo hi z zero [] = Some []
unpack_from lo hi z zero (o ∷ os) = None
unpack_from lo hi z (suc n) os = follow (next_pixel lo hi z os) (λ p rest. unpack_from lo hi p n rest)

unfoldable pub unpack_byte_offset : ElementType → ℕ → List ℕ → Option (List ℤ)
unfolding unpack_from
unpack_byte_offset t n os = unpack_from (least t) (greatest t) (pos 0) n os

unfoldable pub pack_from : ℤ → List ℤ → List ℕ
unfolding pack_difference
pack_from z [] = []
pack_from z (p ∷ ps) = pack_difference (p -ℤ z) ++ pack_from p ps

unfoldable pub pack_byte_offset : List ℤ → List ℕ
unfolding pack_from
pack_byte_offset ps = pack_from (pos 0) ps

-- The shortest form of mission demand 2: no fewer octets unpack to the same pixels.
unfoldable pub Shortest : ElementType → ℕ → List ℕ → Type 0
unfolding unpack_byte_offset
Shortest t n os = (os' : List ℕ) → Octets os' → unpack_byte_offset t n os' ≡ unpack_byte_offset t n os → length os ≤ length os'
