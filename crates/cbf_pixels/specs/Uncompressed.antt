-- Uncompressed pixels. Document 01, "Pixels": "Uncompressed: little-endian, two's complement."
use Rattle.std.specs.Prelude.{ℕ, zero, suc, List, [], ◌∷◌, ◌++◌, Bool, true, false, cond, leb, length, take, drop, ℤ, pos}
use Rattle.std.specs.Prelude.{Option, None, Some}
use Rattle.std.specs.Prelude.{option_map}
use Rattle.cbf_pixels.specs.Octets.{number, octets, signed, bits}
use Rattle.cbf_pixels.specs.declared.ElementType.{ElementType}
use Rattle.cbf_pixels.specs.declared.ElementType.TheVariants.{U8, S8, U16, S16, U32, S32}

-- octets per element
abbrev pub octets_per : ElementType → ℕ
octets_per U8 = 1
octets_per S8 = 1
octets_per U16 = 2
octets_per S16 = 2
octets_per U32 = 4
octets_per S32 = 4

abbrev pub is_signed : ElementType → Bool
is_signed U8 = false
is_signed S8 = true
is_signed U16 = false
is_signed S16 = true
is_signed U32 = false
is_signed S32 = true

-- the pixel that k octets with the number n stand for, in a signed type or not
unfoldable pub pixel_of : Bool → ℕ → ℕ → ℤ
unfolding signed
pixel_of s k n = cond s (signed k n) (pos n)

-- n pixels of k octets each: fails if octets run out or remain
unfoldable pub read_pixels : Bool → ℕ → ℕ → List ℕ → Option (List ℤ)
unfolding pixel_of number
read_pixels s k zero [] = Some []
read_pixels s k zero (o ∷ os) = None
read_pixels s k (suc n) os =
    cond (leb k (length os)) (option_map (λ (ps : List ℤ). pixel_of s k (number (take k os)) ∷ ps) (read_pixels s k n (drop k os))) None

unfoldable pub write_pixels : ℕ → List ℤ → List ℕ
unfolding octets bits
write_pixels k [] = []
write_pixels k (p ∷ ps) = octets k (bits k p) ++ write_pixels k ps

unfoldable pub unpack_uncompressed : ElementType → ℕ → List ℕ → Option (List ℤ)
unfolding read_pixels
unpack_uncompressed t n os = read_pixels (is_signed t) (octets_per t) n os

unfoldable pub pack_uncompressed : ElementType → List ℤ → List ℕ
unfolding write_pixels
pack_uncompressed t ps = write_pixels (octets_per t) ps
