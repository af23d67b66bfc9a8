-- What one pass over a file gives: the number of its sections, and the one with a number.
use Rattle.std.specs.Prelude.{◌≡◌, List, ℕ, suc, ◌<◌, length}
use Rattle.std.specs.Prelude.{Option, None, Some, Result, Ok, Err}
use Rattle.cbf_answers.specs.declared.Refusal.{Refusal}
use Rattle.cbf_walk.specs.Reading.{Item, Reading, refused, good}
use Rattle.cbf_format.specs.Listing.{Placed, sections, numbered}
use Rattle.cbf_reader.specs.Walk.{ReadTo, SectionOf, NextSays}
use Rattle.cbf_reader.specs.declared.step.Field.TheVariants.{Outside}
use Rattle.cbf_reader.specs.declared.whole_file.SectionFound.{SectionFound}
use Rattle.cbf_format.specs.declared.Section.{Section}
use Rattle.cbf_reader.specs.declared.whole_file.FileSections.{FileSections}
use Rattle.cbf_format.specs.Sections as S
use Rattle.cbf_format.specs.Files as F

-- how many sections reading a file gave
abbrev pub count_of : Reading (Item F.State S.Section) → Result ℕ Refusal
count_of (refused k p) = Err (record { number = k; place = p })
count_of (good its) = Ok (length (sections 0 its))

-- the section with a number, or 12
abbrev pub NumberedIs : List ℕ → Option Placed → Result Section Refusal → Type 0
NumberedIs file None r = r ≡ Err (record { number = 12; place = 0 })
NumberedIs file (Some p) r = (s : Section) × (r ≡ Ok s) × SectionOf file p s

abbrev pub NumberedSays : List ℕ → ℕ → Reading (Item F.State S.Section) → Result Section Refusal → Type 0
NumberedSays file n (refused k p) r = r ≡ Err (record { number = k; place = p })
NumberedSays file n (good its) r = NumberedIs file (numbered n (sections 0 its)) r

-- a section with this number, counted from 1, is what is found next from the cursor before it
pub record FoundAt (limit : ℕ) (file : List ℕ) (n : ℕ) (f : SectionFound) : Type 0 where
  pub done : F.Tree
  pub come : ReadTo limit file done f.before
  pub before : suc (length (sections 0 done)) ≡ n
  pub outside : 0 < f.before.at → f.before.field ≡ Outside
  pub next : (done : F.Tree) → ReadTo limit file done f.before
      → NextSays limit file done (Ok (Some (record { section = f.section; after = f.after })))

-- the section with a number and the cursors at it, or 12
abbrev pub PlaceIs : ℕ → List ℕ → ℕ → Option Placed → Result SectionFound Refusal → Type 0
PlaceIs limit file n None r = r ≡ Err (record { number = 12; place = 0 })
PlaceIs limit file n (Some p) r =
    (f : SectionFound) × (r ≡ Ok f) × SectionOf file p f.section × FoundAt limit file n f

abbrev pub PlaceSays : ℕ → List ℕ → ℕ → Reading (Item F.State S.Section) → Result SectionFound Refusal → Type 0
PlaceSays limit file n (refused k p) r = r ≡ Err (record { number = k; place = p })
PlaceSays limit file n (good its) r = PlaceIs limit file n (numbered n (sections 0 its)) r

-- the section that was requested in one pass
abbrev pub RequestedIs : ℕ → List ℕ → ℕ → Option Placed → Option SectionFound → Type 0
RequestedIs limit file n None r = r ≡ None
RequestedIs limit file n (Some p) r =
    (f : SectionFound) × (r ≡ Some f) × SectionOf file p f.section × FoundAt limit file n f

-- count and section together
abbrev pub WholeFileSays : ℕ → List ℕ → ℕ → Reading (Item F.State S.Section) → Result FileSections Refusal → Type 0
WholeFileSays limit file n (refused k p) r = r ≡ Err (record { number = k; place = p })
WholeFileSays limit file n (good its) r =
    (s : Option SectionFound)
    × (r ≡ Ok (record { count = length (sections 0 its); requested = s }))
    × RequestedIs limit file n (numbered n (sections 0 its)) s
