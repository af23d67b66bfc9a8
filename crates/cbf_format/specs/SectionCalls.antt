-- What the calls that count a file's sections or ask for one of them answer, by document 01's numbers.
use Rattle.std.specs.Prelude.{cond, List, [], ℕ, ◌+◌, ◌≤◌, leb, eqb, length, ℤ}
use Rattle.std.specs.Prelude.{Option, None, Some, Ok, Err, Result as Answered}
use Rattle.std.proofs.Math.Seq.{slice}
use Rattle.cbf_walk.specs.Reading.{Item, Reading, refused, good}
use Rattle.cbf_answers.specs.Answers.{Outcome, gives, refuses, written}
use Rattle.cbf_answers.specs.declared.Refusal.{Refusal}
use Rattle.cbf_pixels.specs.PixelCalls.{is_some, pixels_of, unpack_pixels}
use Rattle.cbf_format.specs.declared.Encoding.{Encoding}
use Rattle.cbf_format.specs.declared.Encoding.TheVariants.{Binary, Base64}
use Rattle.cbf_format.specs.Listing.{Placed, sections, numbered, position}
use Rattle.cbf_format.specs.declared.Description.{Description}
use Rattle.cbf_format.specs.declared.Section.{Section}
use Rattle.cbf_format.specs.declared.OctetsPlace.{OctetsPlace}
use Rattle.cbf_format.specs.Sections as S
use Rattle.cbf_format.specs.Files as F

-- the number of sections, or reading's refusal
unfoldable pub read_outcome : Reading (Item F.State S.Section) → Outcome
read_outcome (refused k p) = refuses k p
read_outcome (good its) = gives (length (sections 0 its))

-- ---- the section with a number

-- "A refusal returns its number and place"; else the call has a value
pub data Result (A : Type 0) : Type 0 where
  refusal : ℕ → ℕ → Result A
  value : A → Result A

-- 12: "section number is 0 or above the count"
abbrev pub or_missing : Option Placed → Result Placed
or_missing None = refusal 12 0
or_missing (Some p) = value p

-- "Every call on a file reads it first"
abbrev pub section_numbered : Reading (Item F.State S.Section) → ℕ → Result Placed
section_numbered (refused k p) n = refusal k p
section_numbered (good its) n = or_missing (numbered n (sections 0 its))

-- what a call gives for a section, or the refusal that there is none
abbrev pub of_section : {A : Type 0} → Result Placed → (Placed → Result A) → Result A
of_section (refusal k p) f = refusal k p
of_section (value p) f = f p

-- the same, where a call gives the length of what it wrote
abbrev pub section_outcome : Result Placed → (Placed → Outcome) → Outcome
section_outcome (refusal k p) f = refuses k p
section_outcome (value p) f = f p

-- ---- a section's fields

-- description, boundary line, the span's end, position, and the name of the data block itself
pub record Fields : Type 0 where
  pub description : Description
  pub boundary : ℕ
  pub end : ℕ
  pub first : ℕ
  pub block : List ℕ

-- document 01's number, or the fields of a section as the code has it
abbrev pub numbered_fields : List ℕ → Answered Section Refusal → Result Fields
numbered_fields file (Err r) = refusal r.number r.place
numbered_fields file (Ok s) =
    value (record {
      description = s.description;
      boundary = s.from;
      end = s.to;
      first = s.first;
      block = slice s.block.from s.block.to file;
    })

-- the place that a section has for the name lies in the file
abbrev pub NameInside : List ℕ → Answered Section Refusal → Type 0
NameInside file (Err r) = 0 ≤ length file
NameInside file (Ok s) = (s.block.from ≤ s.block.to) × (s.block.to ≤ length file)

abbrev pub fields_of : Placed → Fields
fields_of p =
    record {
      description = p.section.description;
      boundary = p.boundary;
      end = p.boundary + p.section.width;
      first = position p;
      block = p.section.block;
    }

unfoldable pub section_fields : Reading (Item F.State S.Section) → ℕ → Result Fields
section_fields r n = of_section (section_numbered r n) (λ p. value (fields_of p))

-- ---- octets: "12, 18"

-- where the octets of a section start, and the octets
pub record OctetsAnswer : Type 0 where
  pub start : ℕ
  pub octets : List ℕ

-- 18: "octets .. asked of a BASE64 section"
abbrev pub octets_for : Encoding → ℕ → List ℕ → Result OctetsAnswer
octets_for Binary start os = value (record { start = start; octets = os })
octets_for Base64 start os = refusal 18 0

abbrev pub octets_in : Placed → Result OctetsAnswer
octets_in p = octets_for p.section.description.encoding (position p) p.section.octets

unfoldable pub octets_of : Reading (Item F.State S.Section) → ℕ → Result OctetsAnswer
octets_of r n = of_section (section_numbered r n) octets_in

-- of these: where they start and how many they are; how many they are; and the octets themselves, "an empty part
-- where a part is returned"
pub record Place : Type 0 where
  pub start : ℕ
  pub count : ℕ

abbrev pub octets_place : Result OctetsAnswer → Result Place
octets_place (refusal k p) = refusal k p
octets_place (value o) = value (record { start = o.start; count = length o.octets })

abbrev pub octets_outcome : Result OctetsAnswer → Outcome
octets_outcome (refusal k p) = refuses k p
octets_outcome (value o) = gives (length o.octets)

abbrev pub octets_part : Result OctetsAnswer → List ℕ
octets_part (refusal k p) = []
octets_part (value o) = o.octets

-- document 01's number, or the place of the octets
abbrev pub place_of : Answered OctetsPlace Refusal → Result Place
place_of (Err r) = refusal r.number r.place
place_of (Ok o) = value (record { start = o.first; count = o.size })

-- ---- unpacking: "12, 13, 15"

-- the frame of a section: its pixels, where its octets unpack
unfoldable pub frame_of : Placed → Option (List ℤ)
frame_of p =
    let d = p.section.description in unpack_pixels d.compression d.kind d.elements p.section.octets

-- 13: "octets do not unpack", at the "section's first octet"; 15: "lent output shorter than the answer"
abbrev pub frame_for : Placed → ℕ → Outcome
frame_for p room =
    let n = p.section.description.elements in
    cond (is_some (frame_of p)) (cond (leb n room) (gives n) (refuses 15 0)) (refuses 13 (position p))

unfoldable pub frame_outcome : Reading (Item F.State S.Section) → ℕ → ℕ → Outcome
frame_outcome r n room = section_outcome (section_numbered r n) (λ p. frame_for p room)

abbrev pub pixels_in : Result Placed → List ℤ
pixels_in (refusal k p) = []
pixels_in (value p) = pixels_of (frame_of p)

unfoldable pub frame_pixels : Reading (Item F.State S.Section) → ℕ → List ℤ
frame_pixels r n = pixels_in (section_numbered r n)

-- the answer of unpacking octets alone, with 13 at the section's first octet
abbrev pub placed_at : ℕ → Outcome → Outcome
placed_at first (gives n) = gives n
placed_at first (refuses k p) = cond (eqb k 13) (refuses k first) (refuses k p)

-- what is in the output after `unpack`
abbrev pub frame_output : Reading (Item F.State S.Section) → ℕ → List ℤ → List ℤ
frame_output r n out = written (frame_outcome r n (length out)) (frame_pixels r n) out
