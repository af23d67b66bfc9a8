-- The new file with one section replaced: for the contracts of the private functions.
use Rattle.std.specs.Prelude.{◌≡◌, List, ℕ, ◌≤◌, length}
use Rattle.cbf_walk.specs.Reading.{good}
use Rattle.cbf_format.specs.Listing.{sections}
use Rattle.cbf_format.specs.House.{only, replaced_sections}
use Rattle.cbf_reader.specs.WholeFile.{FoundAt}
use Rattle.cbf_reader.specs.declared.whole_file.SectionFound.{SectionFound}
use Rattle.cbf_rewrite.specs.Rewrite.{sections_of}
use Rattle.cbf_format.specs.Files as F

-- the file with the section of a number in house form with these octets
abbrev pub one_replaced : ℕ → List ℕ → ℕ → List ℕ → List ℕ
one_replaced limit file n os = replaced_sections file (sections_of (F.read limit file)) (only n os)

-- an accepted file has a section with the number, which was found
pub record SectionThere (limit : ℕ) (file : List ℕ) (number : ℕ) (f : SectionFound) : Type 0 where
  pub its : F.Tree
  pub accepted : F.read limit file ≡ good its
  pub there : number ≤ length (sections 0 its)
  pub here : FoundAt limit file number f
