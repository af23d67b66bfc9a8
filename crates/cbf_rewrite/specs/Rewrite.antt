-- A file with chosen sections replaced: for the contracts of the functions that rewrite it.
use Rattle.std.specs.Prelude.{◌≡◌, List, [], ◌∷◌, ℕ, suc, ◌≤◌, ◌<◌, length, ℤ}
use Rattle.std.specs.Prelude.{None}
use Rattle.std.proofs.Math.Seq.{slice}
use Rattle.cbf_walk.specs.Reading.{Item, Reading, refused, good}
use Rattle.cbf_pixels.specs.Pixels.{pack_byte_offset}
use Rattle.cbf_answers.specs.Limits.{file_limit}
use Rattle.cbf_format.specs.Listing.{Placed, sections}
use Rattle.cbf_format.specs.House.{NewOctets, only, later_or, replaced_sections}
use Rattle.cbf_reader.specs.WholeFile.{FoundAt}
use Rattle.cbf_reader.specs.declared.whole_file.SectionFound.{SectionFound}
use Rattle.cbf_house.specs.Span.{Packed}
use Rattle.cbf_rewrite.specs.declared.rewrite.Chosen.{Chosen}
use Rattle.cbf_format.specs.Sections as S
use Rattle.cbf_format.specs.Files as F

-- the sections that reading a file gave
abbrev pub sections_of : Reading (Item F.State S.Section) → List Placed
sections_of (refused k p) = []
sections_of (good its) = sections 0 its

-- the chosen sections by their numbers, each with its frame: the frames stand end to end, the first from `first` on
unfoldable pub chosen_frames : ℕ → List Chosen → List ℤ → List (ℕ × List ℤ)
chosen_frames first [] frames = []
chosen_frames first (c ∷ cs) frames = (c.number, slice first c.end frames) ∷ chosen_frames c.end cs frames

-- the octets of the frames, by the numbers of their sections: the later frame of a section counts
unfoldable pub new_octets : List (ℕ × List ℤ) → NewOctets
new_octets [] m = None
new_octets (c ∷ cs) m = later_or (only c.0 (pack_byte_offset c.1) m) (new_octets cs m)

-- the file with the chosen sections replaced
abbrev pub rewritten : ℕ → List ℕ → List Chosen → List ℤ → List ℕ
rewritten limit file chosen frames =
    replaced_sections file (sections_of (F.read limit file)) (new_octets (chosen_frames 0 chosen frames))

-- a chosen section of a file with `count` sections: its number is above `last`, and its frame packs to size octets
pub record ChosenSection (last count first : ℕ) (frames : List ℤ) (c : Chosen) : Type 0 where
  pub above : last < c.number
  pub there : c.number ≤ count
  pub low : first ≤ c.end
  pub high : c.end ≤ length frames
  pub packed : Packed (slice first c.end frames) c.size
  pub few : c.size ≤ file_limit

-- chosen sections, ascending by their numbers
unfoldable pub ChosenSections : ℕ → ℕ → ℕ → List ℤ → List Chosen → Type 0
ChosenSections last count first frames [] = Unit {0}
ChosenSections last count first frames (c ∷ cs) =
    ChosenSection last count first frames c × ChosenSections c.number count c.end frames cs

-- of an accepted file, no section before the one that was found is chosen
pub record Rewritable (limit : ℕ) (file : List ℕ) (chosen : List Chosen) (frames : List ℤ) (f : SectionFound) : Type 0 where
  pub its : F.Tree
  pub accepted : F.read limit file ≡ good its
  pub number : ℕ
  pub here : FoundAt limit file number f
  pub few : length chosen ≤ 512
  pub choices : ChosenSections f.before.count (length (sections 0 its)) 0 frames chosen

-- a section was found, with the number after those of the sections before it
abbrev pub FoundHere : ℕ → List ℕ → SectionFound → Type 0
FoundHere limit file f = FoundAt limit file (suc f.before.count) f

-- an accepted file has a section after one that was found
pub record MoreAfter (limit : ℕ) (file : List ℕ) (f : SectionFound) : Type 0 where
  pub its : F.Tree
  pub accepted : F.read limit file ≡ good its
  pub here : FoundHere limit file f
  pub more : suc f.before.count < length (sections 0 its)
