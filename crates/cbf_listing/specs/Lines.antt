-- The lines of all sections, measured or written.
use Rattle.std.specs.Prelude.{◌≡◌, Bool, true, false, List, ℕ, ◌≤◌, length, Result, Ok, Err}
use Rattle.std.proofs.lemmas.List.Edits.{sets}
use Rattle.cbf_walk.specs.Reading.{Item, Reading, refused, good}
use Rattle.cbf_format.specs.Listing.{listing}
use Rattle.cbf_answers.specs.declared.Refusal.{Refusal}
use Rattle.cbf_format.specs.Sections as S
use Rattle.cbf_format.specs.Files as F

-- the length of the lines, or the file's refusal
abbrev pub lines_of : Reading (Item F.State S.Section) → Result ℕ Refusal
lines_of (refused k p) = Err (record { number = k; place = p })
lines_of (good its) = Ok (length (listing (good its)))

-- what is in an output after the lines were measured, or written to it
abbrev pub lines_in : Bool → Reading (Item F.State S.Section) → List ℕ → List ℕ
lines_in false r old = old
lines_in true r old = sets old 0 (listing r)

-- the file is accepted, and the output has room for its lines
abbrev pub Fits : Reading (Item F.State S.Section) → List ℕ → Type 0
Fits r out = (its : F.Tree) × (r ≡ good its) × (length (listing (good its)) ≤ length out)
