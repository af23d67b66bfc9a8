-- Worked examples, by computation: document 01's sample, its cut, and each refusal of reading once.
use mathlib.Core.Path.{◌≡◌, refl}
use mathlib.Core.List.{List, [], ◌∷◌, ◌++◌}
use Prim.Native.Nat.{ℕ, ◌+◌, ◌-◌}
use Prim.Native.String.{String}
use lib.ListN.{length, take}
use Rattle.cbf_walk.specs.Parsers.{bad}
use Rattle.cbf_walk.specs.Reading.{Item, Reading, refused, good, read_f}
use Rattle.cbf_format.specs.Text.{bytes}
use Rattle.cbf_format.specs.Lines.{text_line, line_end, exactly, literal, semicolon_line}
use Rattle.cbf_format.specs.Headers.{header_line, header_lines}
use Rattle.cbf_format.specs.Values.{decimal_number}
use Rattle.cbf_format.specs.Descriptions.{judge, verdict, headers}
use Rattle.cbf_format.specs.Base64.{symbol, letters, decode}
use Rattle.cbf_format.specs.Sections.{opening, Section, last_boundary, after_span, closed, binary_data, base64_data}
use Rattle.cbf_format.specs.Sections.{section}
use Rattle.cbf_format.specs.Files.{State, opened, read, step, due, identified}
use Rattle.cbf_format.specs.Catalogue.{zeros, entry, entries, catalogue}
use Rattle.cbf_format.specs.Listing.{Placed, position, sections, digits_of, section_text, section_lines, listing}
use Rattle.cbf_pixels.specs.Octets as O

-- the 401-byte file of document 01
unfoldable pub sample : List ℕ
sample =
    bytes "###CBF: VERSION 1.0\r\ndata_a\r\n_array_data.data\r\n;\r\n--CIF-BINARY-FORMAT-SECTION--\r\n"
    ++ (bytes "Content-Type: application/octet-stream;\r\n     conversions=\"x-CBF_BYTE_OFFSET\"\r\n"
    ++ (bytes "Content-Transfer-Encoding: BINARY\r\nX-Binary-Size: 4\r\nX-Binary-ID: 1\r\n"
    ++ (bytes "X-Binary-Element-Type: \"signed 32-bit integer\"\r\nX-Binary-Element-Byte-Order: LITTLE_ENDIAN\r\n"
    ++ (bytes "X-Binary-Number-of-Elements: 2\r\n\r\n"
    ++ (0x0c ∷ 0x1a ∷ 0x04 ∷ 0xd5 ∷ 0x05 ∷ 0x80 ∷ 0xc8 ∷ 0x00 ∷ bytes "\r\n--CIF-BINARY-FORMAT-SECTION----\r\n;\r\n")))))

pub sample-length : length sample ≡ 401
unfolding sample
sample-length = refl

-- the boundary, the last hyphen of the span, and the first octet of each section
abbrev pub places : List Placed → List (ℕ × ℕ × ℕ)
places [] = []
places (p ∷ ps) = (p.boundary, p.boundary + p.section.width - 1, position p) ∷ places ps

abbrev pub places_of : Reading (Item State Section) → List (ℕ × ℕ × ℕ)
places_of (refused k p) = []
places_of (good its) = places (sections 0 its)

pub sample-places : places_of (read 80 sample) ≡ (50, 395, 359) ∷ []
unfolding sample read read_f step due text_line line_end exactly literal semicolon_line header_line header_lines judge
    verdict headers last_boundary after_span closed binary_data section identified decimal_number sections
sample-places = refl

pub sample-listed : listing (read 80 sample) ≡ bytes "1 359 4 2 byte_offset s32 a\n"
unfolding sample read read_f step due text_line line_end exactly literal semicolon_line header_line header_lines judge
    verdict headers last_boundary after_span closed binary_data section identified decimal_number listing sections
    section_lines section_text digits_of
sample-listed = refl

-- "46 52 43 00 01 00 01 00, 67 01 00 00, 04 00 00 00, 02 00 00 00, 01 06 00 00, 01 00 00 00, twelve 00, 61,
-- thirty-one 00"
abbrev catalogue_of : Reading (Item State Section) → List ℕ
catalogue_of (refused k p) = []
catalogue_of (good its) = catalogue (sections 0 its)

pub sample-catalogued : catalogue_of (read 80 sample)
    ≡ 0x46 ∷ 0x52 ∷ 0x43 ∷ 0 ∷ 1 ∷ 0 ∷ 1 ∷ 0 ∷ 0x67 ∷ 1 ∷ 0 ∷ 0 ∷ 4 ∷ 0 ∷ 0 ∷ 0 ∷ 2 ∷ 0 ∷ 0 ∷ 0 ∷ 1 ∷ 6 ∷ 0 ∷ 0 ∷ 1 ∷
    0 ∷ 0 ∷ 0 ∷ (zeros 12 ++ (0x61 ∷ zeros 31))
unfolding sample read read_f step due text_line line_end exactly literal semicolon_line header_line header_lines judge
    verdict headers last_boundary after_span closed binary_data section identified decimal_number sections catalogue
    entries entry zeros O.octets
sample-catalogued = refl

pub sample-cut : read 80 (take 370 sample) ≡ refused 9 363
unfolding sample read read_f step due text_line line_end exactly literal semicolon_line header_line header_lines judge
    verdict headers last_boundary after_span closed binary_data section identified decimal_number
sample-cut = refl

-- ---- each refusal once. A file with one section: its headers, and what follows the empty line

abbrev pub front : String
front = "###CBF: VERSION 1.0\n;\n--CIF-BINARY-FORMAT-SECTION--\n"

abbrev pub sectioned : String → String → List ℕ
sectioned headers rest = bytes front ++ (bytes headers ++ (10 ∷ bytes rest))

pub no-identifier : read 80 (bytes "data_a\n") ≡ refused 1 0
unfolding read read_f step due identified
no-identifier = refl

pub empty-file : read 80 [] ≡ refused 1 0
unfolding read
empty-file = refl

pub long-line : read 80 (bytes "###CBF: VERSION 1.0\n0123456789012345678901234567890123456789012345678901234567890123456789012345678901\n") ≡ refused 2 100
unfolding read read_f step due text_line identified
long-line = refl

-- at the same byte 3 comes before 2
pub no_text : read 80 (bytes "###CBF: VERSION 1.0\n01234567890123456789012345678901234567890123456789012345678901234567890123456789\u{7f}\n") ≡ refused 3 100
unfolding read read_f step due text_line identified
no_text = refl

pub too_many : step 80 (record { count = 512; block = []; field = opened 2 }) (opening ++ (10 ∷ [])) ≡ bad 4 0
unfolding step text_line
too_many = refl

pub no-colon : read 80 (bytes front ++ bytes "Content-Type application/octet-stream\n") ≡ refused 5 52
unfolding read read_f step due text_line header_line header_lines headers section identified
no-colon = refl

pub repeated : read 80 (sectioned "X-Binary-Size: 1\nx-binary-size: 1\n" "") ≡ refused 6 69
unfolding read read_f step due text_line header_line header_lines judge verdict headers section identified decimal_number
repeated = refl

pub missing : read 80 (sectioned "X-Binary-Size: 1\n" "") ≡ refused 6 69
unfolding read read_f step due text_line header_line header_lines judge verdict headers section identified decimal_number
missing = refl

pub disagree : read 80 (sectioned "Content-Transfer-Encoding: BINARY\nX-Binary-Size: 1\nX-Binary-Number-of-Elements: 1\n" "") ≡ refused 7 134
unfolding read read_f step due text_line header_line header_lines judge verdict headers section identified decimal_number
disagree = refl

pub no-marker : read 80 (sectioned "Content-Transfer-Encoding: BINARY\nX-Binary-Size: 4\nX-Binary-Number-of-Elements: 1\n" "\u{c}\u{1a}\u{4}") ≡ refused 8 135
unfolding read read_f step due text_line header_line header_lines judge verdict headers section identified decimal_number
    binary_data literal exactly
no-marker = refl

pub no-letter : read 80 (sectioned "Content-Transfer-Encoding: BASE64\nX-Binary-Size: 4\nX-Binary-Number-of-Elements: 1\n" "AA-A\n") ≡ refused 10 137
unfolding read read_f step due text_line header_line header_lines judge verdict headers section identified decimal_number
    base64_data letters symbol
no-letter = refl

pub unused-bits : read 80 (sectioned
    "Content-Transfer-Encoding: BASE64\nX-Binary-Size: 4\nX-Binary-Number-of-Elements: 1\n"
    "AAAAAB==\n--CIF-BINARY-FORMAT-SECTION----\n;\n") ≡ refused 10 144
unfolding read read_f step due text_line header_line header_lines judge verdict headers section identified decimal_number
    base64_data letters symbol decode
unused-bits = refl

pub open-field : read 80 (bytes "###CBF: VERSION 1.0\n;\n") ≡ refused 11 20
unfolding read read_f step due text_line identified
open-field = refl
