-- The C boundary: what a number that is no element type or compression gives, and the structs that the calls return,
-- whose fields are those of include/mooringelm.h in their order.
use Rattle.std.specs.Prelude.{cond, ℕ, ◌<◌, ◌≤◌, ◌^◌, eqb, List, [], length, ℤ}
use Rattle.std.specs.Prelude.{Option, None, Some}
use Rattle.cbf_pixels.specs.declared.ElementType.{ElementType}
use Rattle.cbf_pixels.specs.declared.Compression.{Compression}
use Rattle.cbf_capi.specs.declared.MelAnswer.{MelAnswer}
use Rattle.cbf_capi.specs.declared.MelOctetsAnswer.{MelOctetsAnswer}
use Rattle.cbf_capi.specs.declared.MelSectionAnswer.{MelSectionAnswer}
use Rattle.cbf_format.specs.declared.Description.{Description}
use Rattle.cbf_format.specs.declared.Section.{Section}
use Rattle.cbf_pixels.specs.Numbers.{compression_number, type_number}
use Rattle.cbf_format.specs.Catalogue.{encoding_number}
use Rattle.cbf_format.specs.SectionCalls.{Result, refusal, value, OctetsAnswer, Fields}
use Rattle.cbf_answers.specs.Answers.{Outcome, gives, refuses}
use Rattle.cbf_pixels.specs.PixelCalls.{pack_outcome, unpack_outcome, pixels_of, unpack_pixels}

-- "any other type is 14 at 0 in packing"
unfoldable pub pack_call : Option ElementType → List ℤ → ℕ → Outcome
pack_call None ps room = refuses 14 0
pack_call (Some t) ps room = pack_outcome t ps room

-- "any other type or compression 13 at 0 in unpacking"
unfoldable pub unpack_call : Option ElementType → Option Compression → ℕ → List ℕ → ℕ → Outcome
unpack_call None c n os room = refuses 13 0
unpack_call (Some t) None n os room = refuses 13 0
unpack_call (Some t) (Some c) n os room = unpack_outcome c t n os room

-- the pixels that are written where the call is not refused
unfoldable pub unpacked_by : Option ElementType → Option Compression → ℕ → List ℕ → List ℤ
unpacked_by None c n os = []
unpacked_by (Some t) None n os = []
unpacked_by (Some t) (Some c) n os = pixels_of (unpack_pixels c t n os)

-- ---- what is returned

-- "`refusal` is 0 for none; then `place` and `item` are 0. With a refusal `length` and every other field is 0. `item` is
-- 0 in all calls"
abbrev pub returned : Outcome → MelAnswer
returned (gives n) = record { refusal = 0; place = 0; item = 0; length = n }
returned (refuses number place) = record { refusal = number; place = place; item = 0; length = 0 }

-- how many octets a section has, and where they start
abbrev pub returned_octets : Result OctetsAnswer → MelOctetsAnswer
returned_octets (refusal k p) = record { refusal = k; place = p; item = 0; length = 0; start = 0 }
returned_octets (value o) = record { refusal = 0; place = 0; item = 0; length = length o.octets; start = o.start }

-- what the headers of a section say, the places of its span and of its first octet, and where the name of its data block
-- starts and how long it is
abbrev pub section_returned : Description → ℕ → ℕ → ℕ → ℕ → ℕ → MelSectionAnswer
section_returned d boundary end first name-start name-length =
    record {
      refusal = 0;
      place = 0;
      item = 0;
      boundary = boundary;
      span_end = end;
      position = first;
      size = d.size;
      elements = d.elements;
      id = d.id;
      fastest = d.fastest;
      second = d.second;
      third = d.third;
      name_start = name-start;
      name_length = name-length;
      compression = compression_number d.compression;
      element_type = type_number d.kind;
      encoding = encoding_number d.encoding;
    }

abbrev pub section_refused : ℕ → ℕ → MelSectionAnswer
section_refused number place =
    record {
      refusal = number;
      place = place;
      item = 0;
      boundary = 0;
      span_end = 0;
      position = 0;
      size = 0;
      elements = 0;
      id = 0;
      fastest = 0;
      second = 0;
      third = 0;
      name_start = 0;
      name_length = 0;
      compression = 0;
      element_type = 0;
      encoding = 0;
    }

-- the fields of a section, where the name of its data block starts at a place of the file
abbrev pub returned_section : ℕ → Result Fields → MelSectionAnswer
returned_section at (refusal k p) = section_refused k p
returned_section at (value f) =
    section_returned f.description f.boundary f.end f.first at (length f.block)

-- the name of its data block; none where the call is refused
abbrev pub block_name : Result Fields → List ℕ
block_name (refusal k p) = []
block_name (value f) = f.block

-- ---- what private functions ask: that the fields can hold it

-- the place of a refusal, or the length
abbrev pub value_of : Outcome → ℕ
value_of (gives n) = n
value_of (refuses number place) = place

-- the numbers of a section
pub record Narrow (d : Description) (boundary end first : ℕ) : Type 0 where
  pub boundary_fits : boundary < 2 ^ 32
  pub end_fits : end < 2 ^ 32
  pub first_fits : first < 2 ^ 32
  pub size_fits : d.size < 2 ^ 32
  pub elements_fit : d.elements < 2 ^ 32
  pub id_fits : d.id < 2 ^ 32
  pub fastest_fits : d.fastest < 2 ^ 32
  pub second_fits : d.second < 2 ^ 32
  pub third_fits : d.third < 2 ^ 32

-- the same of the code's section, with the place of the name
pub record NarrowSection (s : Section) : Type 0 where
  pub numbers : Narrow s.description s.from s.to s.first
  pub name_low : s.block.from ≤ s.block.to
  pub name_high : s.block.to < 2 ^ 32
