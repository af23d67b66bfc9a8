-- What the call that writes a catalogue answers.
use Rattle.std.specs.Prelude.{Option, None, Some}
use Rattle.std.specs.Prelude.{List, [], ℕ, length}
use Rattle.cbf_walk.specs.Reading.{Item, Reading, refused, good}
use Rattle.cbf_answers.specs.Answers.{Outcome, refuses, written}
use Rattle.cbf_format.specs.Listing.{sections}
use Rattle.cbf_format.specs.Catalogue.{catalogue, long_name}
use Rattle.cbf_answers.specs.Rooms.{room_for}
use Rattle.cbf_format.specs.Sections as S
use Rattle.cbf_format.specs.Files as F

-- "catalogue 17 (lowest section), 15", after reading
abbrev pub catalogued_or : Option ℕ → List ℕ → ℕ → Outcome
catalogued_or None text room = room_for text room
catalogued_or (Some p) text room = refuses 17 p

unfoldable pub catalogue_outcome : Reading (Item F.State S.Section) → ℕ → Outcome
unfolding room_for
catalogue_outcome (refused k p) room = refuses k p
catalogue_outcome (good its) room = catalogued_or (long_name (sections 0 its)) (catalogue (sections 0 its)) room

unfoldable pub catalogue_text : Reading (Item F.State S.Section) → List ℕ
catalogue_text (refused k p) = []
catalogue_text (good its) = catalogue (sections 0 its)

-- what is in the output after `catalogue`
abbrev pub catalogue_output : Reading (Item F.State S.Section) → List ℕ → List ℕ
catalogue_output r out = written (catalogue_outcome r (length out)) (catalogue_text r) out
