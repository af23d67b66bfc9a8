-- The sections of a file, and its listing. Document 01, "House form, catalogue, listing".
use Rattle.std.specs.Prelude.{Option, None, Some}
use Rattle.std.specs.Prelude.{cond, List, [], ◌∷◌, ◌++◌, ℕ, zero, suc, ◌+◌, ◌/◌, ◌%◌, ltb, length}
use Rattle.cbf_walk.specs.Reading.{Item, Reading, refused, good}
use Rattle.cbf_pixels.specs.declared.ElementType.{ElementType}
use Rattle.cbf_pixels.specs.declared.ElementType.TheVariants.{U8, S8, U16, S16, U32, S32}
use Rattle.cbf_pixels.specs.declared.Compression.{Compression}
use Rattle.cbf_pixels.specs.declared.Compression.TheVariants.{Uncompressed, ByteOffset}
use Rattle.cbf_format.specs.Text.{bytes}
use Rattle.cbf_format.specs.Sections.{Section}
use Rattle.cbf_format.specs.Files.{State, Tree}

-- a section of a file, and the place of its boundary line
pub record Placed : Type 0 where
  pub boundary : ℕ
  pub section : Section

abbrev pub add_placed : ℕ → Option Section → List Placed → List Placed
add_placed at None l = l
add_placed at (Some i) l = record { boundary = at; section = i } ∷ l

-- the sections of a tree, whose bytes start at a place
unfoldable pub sections : ℕ → Tree → List Placed
sections at [] = []
sections at (it ∷ its) = add_placed at it.info (sections (at + length it.bytes) its)

-- the section with a number, "0 or above the count" has none: 12
unfoldable pub numbered : ℕ → List Placed → Option Placed
numbered zero ps = None
numbered (suc n) [] = None
numbered (suc zero) (p ∷ ps) = Some p
numbered (suc (suc n)) (p ∷ ps) = numbered (suc n) ps

-- the position of the first octet (BASE64: the byte after the empty line)
abbrev pub position : Placed → ℕ
position p = p.boundary + p.section.first

-- ---- text

-- "Numbers have no leading zeros"; the first number bounds the digits
unfoldable pub digits_of : ℕ → ℕ → List ℕ
digits_of zero n = []
digits_of (suc f) n = let r = digits_of f (n / 10) in cond (ltb n 10) ((48 + n) ∷ []) (r ++ ((48 + n % 10) ∷ []))

-- a number of 64 bits has at most 20 digits
abbrev pub printed : ℕ → List ℕ
printed n = digits_of 20 n

abbrev pub compression_name : Compression → List ℕ
compression_name Uncompressed = bytes "none"
compression_name ByteOffset = bytes "byte_offset"

abbrev pub type_name : ElementType → List ℕ
type_name U8 = bytes "u8"
type_name S8 = bytes "s8"
type_name U16 = bytes "u16"
type_name S16 = bytes "s16"
type_name U32 = bytes "u32"
type_name S32 = bytes "s32"

-- "with an empty name the line ends after the type"
abbrev pub named : List ℕ → List ℕ
named [] = []
named (x ∷ t) = 32 ∷ x ∷ t

abbrev pub spaced : List ℕ → List ℕ → List ℕ
spaced t r = t ++ (32 ∷ r)

-- "section number, then .. position, size, elements, `none` or `byte_offset`, type, and the whole block name, single
-- spaces between"
unfoldable pub section_text : ℕ → ℕ → ℕ → ℕ → Compression → ElementType → List ℕ → List ℕ
section_text number at size elements compression type name =
    spaced (printed number)
    (spaced (printed at)
    (spaced (printed size) (spaced (printed elements) (spaced (compression_name compression) (type_name type ++ (named name ++ (10 ∷ [])))))))

abbrev pub section_line : ℕ → Placed → List ℕ
section_line n p =
    let d = p.section.description in section_text n (position p) d.size d.elements d.compression d.kind p.section.block

unfoldable pub section_lines : ℕ → List Placed → List ℕ
section_lines n [] = []
section_lines n (p ∷ ps) = section_line n p ++ section_lines (suc n) ps

-- "A refusal is one such line alone: `refused 9 at 363`"
unfoldable pub listing : Reading (Item State Section) → List ℕ
listing (refused k p) = bytes "refused " ++ (printed k ++ (bytes " at " ++ (printed p ++ (10 ∷ []))))
listing (good its) = section_lines 1 (sections 0 its)
