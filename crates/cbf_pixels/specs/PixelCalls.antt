-- What packing and unpacking answer, and what they leave in the lent output.
use Rattle.std.specs.Prelude.{ℕ, List, [], Bool, true, false, cond, leb, length, ℤ}
use Rattle.std.specs.Prelude.{Option, None, Some}
use Rattle.cbf_pixels.specs.Pixels.{least, greatest, all_within, pack_byte_offset, unpack_byte_offset}
use Rattle.cbf_pixels.specs.Uncompressed.{unpack_uncompressed}
use Rattle.cbf_pixels.specs.declared.ElementType.{ElementType}
use Rattle.cbf_pixels.specs.declared.Compression.{Compression}
use Rattle.cbf_pixels.specs.declared.Compression.TheVariants.{Uncompressed, ByteOffset}
use Rattle.cbf_answers.specs.Answers.{Outcome, gives, refuses, written}
use Rattle.cbf_answers.specs.Limits.{pixel_limit}
use Rattle.cbf_answers.specs.Rooms.{room_for}

-- "Packing a list alone: 14 (over the pixel limit, or a pixel outside the type)", then 15, each at 0. Between them
-- document 01 has 16, which document 02 (xii) withdraws.
unfoldable pub pack_outcome : ElementType → List ℤ → ℕ → Outcome
unfolding room_for
pack_outcome t ps room =
    cond (leb (length ps) pixel_limit)
    (cond (all_within (least t) (greatest t) ps) (room_for (pack_byte_offset ps) room) (refuses 14 0))
    (refuses 14 0)

unfoldable pub pack_output : ElementType → List ℤ → List ℕ → List ℕ
unfolding written pack_outcome
pack_output t ps out = written (pack_outcome t ps (length out)) (pack_byte_offset ps) out

-- unpacking of either compression
unfoldable pub unpack_pixels : Compression → ElementType → ℕ → List ℕ → Option (List ℤ)
unpack_pixels Uncompressed t n os = unpack_uncompressed t n os
unpack_pixels ByteOffset t n os = unpack_byte_offset t n os

unfoldable pub is_some : Option (List ℤ) → Bool
is_some None = false
is_some (Some ps) = true

unfoldable pub pixels_of : Option (List ℤ) → List ℤ
pixels_of None = []
pixels_of (Some ps) = ps

-- 13, also for more pixels than a section may have, then 15, each at 0: octets alone have no place in a file
unfoldable pub unpack_outcome : Compression → ElementType → ℕ → List ℕ → ℕ → Outcome
unfolding is_some
unpack_outcome c t n os room =
    cond (leb n pixel_limit)
    (cond (is_some (unpack_pixels c t n os)) (cond (leb n room) (gives n) (refuses 15 0)) (refuses 13 0))
    (refuses 13 0)

unfoldable pub unpack_output : Compression → ElementType → ℕ → List ℕ → List ℤ → List ℤ
unfolding written unpack_outcome pixels_of
unpack_output c t n os out = written (unpack_outcome c t n os (length out)) (pixels_of (unpack_pixels c t n os)) out
