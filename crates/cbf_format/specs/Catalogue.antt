-- The catalogue of a file. Document 01, "House form, catalogue, listing".
use Rattle.std.specs.Prelude.{Option, None, Some}
use Rattle.std.specs.Prelude.{cond, List, [], ◌∷◌, ◌++◌, ℕ, zero, suc, ◌-◌, leb, length}
use Rattle.cbf_pixels.specs.Octets.{octets}
use Rattle.cbf_pixels.specs.declared.ElementType.{ElementType}
use Rattle.cbf_pixels.specs.declared.Compression.{Compression}
use Rattle.cbf_pixels.specs.Numbers.{compression_number, type_number}
use Rattle.cbf_format.specs.declared.Encoding.{Encoding}
use Rattle.cbf_format.specs.declared.Encoding.TheVariants.{Binary, Base64}
use Rattle.cbf_format.specs.Text.{bytes}
use Rattle.cbf_format.specs.Listing.{Placed, position}

-- "label zero-filled to 32"
abbrev pub label_width : ℕ
label_width = 32

-- "encoding (0 BINARY, 1 BASE64)"
abbrev pub encoding_number : Encoding → ℕ
encoding_number Binary = 0
encoding_number Base64 = 1

unfoldable pub zeros : ℕ → List ℕ
zeros zero = []
zeros (suc n) = 0 ∷ zeros n

abbrev pub label : List ℕ → List ℕ
label name = name ++ zeros (label_width - length name)

-- 64 bytes: "32-bit position of the first octet .., size, elements; one byte each for compression .., type ..,
-- encoding .., 0; 32-bit ID and three dimensions, 0 if absent"; and the label
unfoldable pub entry : ℕ → ℕ → ℕ → Compression → ElementType → Encoding → ℕ → ℕ → ℕ → ℕ → List ℕ → List ℕ
unfolding octets
entry at size elements compression type encoding id fastest second third name =
    octets 4 at ++ (octets 4 size ++ (octets 4 elements
    ++ ((compression_number compression ∷ type_number type ∷ encoding_number encoding ∷ 0 ∷ [])
    ++ (octets 4 id ++ (octets 4 fastest ++ (octets 4 second ++ (octets 4 third ++ label name)))))))

abbrev pub entry_of : Placed → List ℕ
entry_of p =
    let d = p.section.description in
    entry (position p) d.size d.elements d.compression d.kind d.encoding d.id d.fastest d.second d.third
    p.section.block

unfoldable pub entries : List Placed → List ℕ
entries [] = []
entries (p ∷ ps) = entry_of p ++ entries ps

-- "`FRC`, 0, 16-bit version 1, 16-bit count; then 64 bytes a section"
unfoldable pub catalogue : List Placed → List ℕ
unfolding octets
catalogue ps = bytes "FRC" ++ (0 ∷ (octets 2 1 ++ (octets 2 (length ps) ++ entries ps)))

-- 17: "data block name over 32 characters", "section's boundary line", of the "lowest section"
unfoldable pub long_name : List Placed → Option ℕ
long_name [] = None
long_name (p ∷ ps) = let r = long_name ps in cond (leb (length p.section.block) label_width) r (Some p.boundary)
