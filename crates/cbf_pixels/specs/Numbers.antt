-- The numbers of element types and compressions, in catalogues and for C: document 01, "House form, catalogue, listing".
use Rattle.std.specs.Prelude.{◌≡◌, cond, ℕ, eqb, Option, None, Some, Result, Ok, Err}
use Rattle.cbf_pixels.specs.declared.ElementType.{ElementType}
use Rattle.cbf_pixels.specs.declared.ElementType.TheVariants.{U8, S8, U16, S16, U32, S32}
use Rattle.cbf_pixels.specs.declared.Compression.{Compression}
use Rattle.cbf_pixels.specs.declared.Compression.TheVariants.{Uncompressed, ByteOffset}
use Rattle.cbf_pixels.specs.declared.UnknownNumber.{UnknownNumber}

-- "compression (0 none, 1 byte offset)"
abbrev pub compression_number : Compression → ℕ
compression_number Uncompressed = 0
compression_number ByteOffset = 1

-- "type (1 u8, 2 s8, 3 u16, 4 s16, 5 u32, 6 s32)"
abbrev pub type_number : ElementType → ℕ
type_number U8 = 1
type_number S8 = 2
type_number U16 = 3
type_number S16 = 4
type_number U32 = 5
type_number S32 = 6

-- the element type with a number
unfoldable pub element : ℕ → Option ElementType
element n =
    cond (eqb n 1) (Some U8)
    (cond (eqb n 2) (Some S8)
    (cond (eqb n 3) (Some U16)
    (cond (eqb n 4) (Some S16)
    (cond (eqb n 5) (Some U32)
    (cond (eqb n 6) (Some S32) None)))))

-- the compression with a number
unfoldable pub compressed : ℕ → Option Compression
compressed n = cond (eqb n 0) (Some Uncompressed) (cond (eqb n 1) (Some ByteOffset) None)

-- a conversion from a number gives just this
abbrev pub Decoded : {T : Type 0} → Option T → Result T UnknownNumber → Type 0
Decoded known (Ok t) = known ≡ Some t
Decoded known (Err e) = known ≡ None
