-- P1 to P12: single pixels, each packed, and unpacked again.
use Prim.Native.Nat.{ℕ}
use mathlib.Core.Path.{◌≡◌, refl}
use Rattle.std.specs.Prelude.{Some}
use mathlib.Core.List.{List, [], ◌∷◌}
use lib.IntN.{ℤ, pos, negsuc}
use Rattle.cbf_pixels.specs.declared.ElementType.{ElementType}
use Rattle.cbf_pixels.specs.declared.ElementType.TheVariants.{S32, U32}
use Rattle.cbf_pixels.specs.Pixels.{pack_byte_offset, unpack_byte_offset}

pub record Case : Type 0 where
  pub type : ElementType
  pub pixels : List ℤ
  pub octets : List ℕ

abbrev s32 : ℤ → List ℕ → Case
s32 z os = record { type = S32; pixels = z ∷ []; octets = os }

abbrev pub table : List Case
table =
    record { type = S32; pixels = []; octets = [] }
    ∷ s32 (pos 0) (0x00 ∷ [])
    ∷ s32 (pos 127) (0x7f ∷ [])
    ∷ s32 (negsuc 126) (0x81 ∷ [])
    ∷ s32 (pos 128) (0x80 ∷ 0x80 ∷ 0x00 ∷ [])
    ∷ s32 (negsuc 127) (0x80 ∷ 0x80 ∷ 0xff ∷ [])
    ∷ s32 (pos 32767) (0x80 ∷ 0xff ∷ 0x7f ∷ [])
    ∷ s32 (negsuc 32766) (0x80 ∷ 0x01 ∷ 0x80 ∷ [])
    ∷ s32 (pos 32768) (0x80 ∷ 0x00 ∷ 0x80 ∷ 0x00 ∷ 0x80 ∷ 0x00 ∷ 0x00 ∷ [])
    ∷ s32 (negsuc 32767) (0x80 ∷ 0x00 ∷ 0x80 ∷ 0x00 ∷ 0x80 ∷ 0xff ∷ 0xff ∷ [])
    ∷ s32 (pos 2147483647) (0x80 ∷ 0x00 ∷ 0x80 ∷ 0xff ∷ 0xff ∷ 0xff ∷ 0x7f ∷ [])
    ∷ s32 (negsuc 2147483647) (0x80 ∷ 0x00 ∷ 0x80 ∷ 0x00 ∷ 0x00 ∷ 0x00 ∷ 0x80 ∷ 0x00 ∷ 0x00 ∷ 0x00 ∷ 0x80 ∷ 0xff ∷ 0xff ∷ 0xff ∷ 0xff ∷ [])
    ∷ record {
      type = U32;
      pixels = pos 4294967295 ∷ [];
      octets = 0x80 ∷ 0x00 ∷ 0x80 ∷ 0x00 ∷ 0x00 ∷ 0x00 ∷ 0x80 ∷
          0xff ∷ 0xff ∷ 0xff ∷ 0xff ∷ 0x00 ∷ 0x00 ∷ 0x00 ∷ 0x00 ∷ [];
    }
    ∷ []

abbrev pub Holds : List Case → Type 0
Holds [] = Unit {0}
Holds (c ∷ cs) = (pack_byte_offset c.pixels ≡ c.octets) × (unpack_byte_offset c.type (lib.ListN.length c.pixels)
    c.octets ≡ Some c.pixels) × Holds cs

pub table-holds : Holds table
unfolding pack_byte_offset unpack_byte_offset
table-holds = (
  refl,
  refl,
  (
    refl,
    refl,
    (
      refl,
      refl,
      (
        refl,
        refl,
        (
          refl,
          refl,
          (
            refl,
            refl,
            (
              refl,
              refl,
              (refl, refl, (refl, refl, (refl, refl, (refl, refl, (refl, refl, (refl, refl, tt)))))),
            ),
          ),
        ),
      ),
    ),
  ),
)
