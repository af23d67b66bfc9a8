-- What replacement answers, by document 01's numbers: reading's refusal, then 12, 18, 14, 15; and the file that it
-- gives. Before 15 document 01 has 16, which document 02 (xii) withdraws.
use Rattle.std.specs.Prelude.{Bool, ◌&&◌, cond, List, [], ℕ, leb, eqb, length, ℤ}
use Rattle.cbf_walk.specs.Reading.{Item, Reading}
use Rattle.cbf_pixels.specs.Pixels.{least, greatest, all_within, pack_byte_offset}
use Rattle.cbf_answers.specs.Answers.{Outcome, refuses, written}
use Rattle.cbf_answers.specs.Limits.{file_limit}
use Rattle.cbf_format.specs.declared.Encoding.{Encoding}
use Rattle.cbf_format.specs.declared.Encoding.TheVariants.{Binary, Base64}
use Rattle.cbf_format.specs.declared.Description.{Description}
use Rattle.cbf_format.specs.Sections.{Section}
use Rattle.cbf_format.specs.Files.{State}
use Rattle.cbf_format.specs.Listing.{Placed}
use Rattle.cbf_format.specs.House.{replaced_file}
use Rattle.cbf_answers.specs.Rooms.{room_for}
use Rattle.cbf_format.specs.SectionCalls.{Result, refusal, value, section_numbered, section_outcome}

-- "Fits: as many pixels as elements, each inside the integer type"
unfoldable pub frame_fits : Description → List ℤ → Bool
frame_fits d frame = eqb (length frame) d.elements && all_within (least d.kind) (greatest d.kind) frame

-- 15: "lent output shorter than the answer, or result file too long"
unfoldable pub room_for_file : List ℕ → ℕ → Outcome
unfolding room_for
room_for_file new room = cond (leb (length new) file_limit) (room_for new room) (refuses 15 0)

-- 14: "new frame of wrong count .. or a pixel outside the type"
unfoldable pub replace_fitting : Description → List ℤ → List ℕ → ℕ → Outcome
unfolding frame_fits room_for_file
replace_fitting d frame new room = cond (frame_fits d frame) (room_for_file new room) (refuses 14 0)

-- 18: "replacement asked of a BASE64 section"
abbrev pub replace_for : Encoding → Description → List ℤ → List ℕ → ℕ → Outcome
replace_for Binary d frame new room = replace_fitting d frame new room
replace_for Base64 d frame new room = refuses 18 0

unfoldable pub replace_outcome : List ℕ → Reading (Item State Section) → ℕ → List ℤ → ℕ → Outcome
replace_outcome file r n frame room =
    section_outcome (section_numbered r n) (λ p.
    let d = p.section.description in replace_for d.encoding d frame (replaced_file file p (pack_byte_offset frame)) room)

abbrev pub new_file : List ℕ → Result Placed → List ℤ → List ℕ
new_file file (refusal k p) frame = []
new_file file (value p) frame = replaced_file file p (pack_byte_offset frame)

-- the file with the section's span in house form with the frame
unfoldable pub replaced_by : List ℕ → Reading (Item State Section) → ℕ → List ℤ → List ℕ
replaced_by file r n frame = new_file file (section_numbered r n) frame

-- what is in the output after `replace`
abbrev pub replace_output : List ℕ → Reading (Item State Section) → ℕ → List ℤ → List ℕ → List ℕ
replace_output file r n frame out = written (replace_outcome file r n frame (length out)) (replaced_by file r n frame) out
