-- The entries of all sections, counted or written.
use Rattle.std.specs.Prelude.{◌≡◌, Bool, true, false, cond, List, ℕ, ◌+◌, ◌*◌, ◌≤◌, leb, length}
use Rattle.std.specs.Prelude.{Option, None, Some, Result, Ok, Err}
use Rattle.std.proofs.lemmas.List.Edits.{sets}
use Rattle.cbf_answers.specs.declared.Refusal.{Refusal}
use Rattle.cbf_walk.specs.Reading.{Item, Reading, refused, good}
use Rattle.cbf_format.specs.Listing.{sections}
use Rattle.cbf_format.specs.Catalogue.{label_width, entries, long_name}
use Rattle.cbf_format.specs.Sections as S
use Rattle.cbf_format.specs.Files as F

-- the place of the first section with a long name, with one section more: its name's length and its boundary line
abbrev pub with_name : Option ℕ → ℕ → ℕ → Option ℕ
with_name None n from = cond (leb n label_width) None (Some from)
with_name (Some p) n from = Some p

-- 17 at the first long name, or the number of the sections
abbrev pub finished_by : Option ℕ → ℕ → Result ℕ Refusal
finished_by None count = Ok count
finished_by (Some p) count = Err (record { number = 17; place = p })

-- the file's refusal, its first long name, or the number of its sections
abbrev pub entries_of : Reading (Item F.State S.Section) → Result ℕ Refusal
entries_of (refused k p) = Err (record { number = k; place = p })
entries_of (good its) = finished_by (long_name (sections 0 its)) (length (sections 0 its))

-- what is in an output after the entries were counted, or written to it behind the heading
abbrev pub entries_in : Bool → Reading (Item F.State S.Section) → List ℕ → List ℕ
entries_in writing (refused k p) old = old
entries_in false (good its) old = old
entries_in true (good its) old = sets old 8 (entries (sections 0 its))

-- the file is accepted, no name is too long, and the output has room for the catalogue
abbrev pub EntriesFit : Reading (Item F.State S.Section) → List ℕ → Type 0
EntriesFit r out = (its : F.Tree) × (r ≡ good its) × (long_name (sections 0 its) ≡ None) × (8 + 64 * length (sections 0 its) ≤ length out)
