-- What the calls that list a file answer.
use Rattle.std.specs.Prelude.{List, ℕ, length}
use Rattle.cbf_walk.specs.Reading.{Item, Reading, refused, good}
use Rattle.cbf_answers.specs.Answers.{Outcome, gives, refuses, written}
use Rattle.cbf_format.specs.Listing.{listing}
use Rattle.cbf_answers.specs.Rooms.{room_for}
use Rattle.cbf_format.specs.Sections as S
use Rattle.cbf_format.specs.Files as F

-- "Every call on a file reads it first", and gives reading's refusal
unfoldable pub list_outcome : Reading (Item F.State S.Section) → ℕ → Outcome
list_outcome (refused k p) room = refuses k p
list_outcome (good its) room = room_for (listing (good its)) room

-- the listing, or the line of the refusal that the call gives
abbrev pub shown_for : Outcome → List ℕ → List ℕ
shown_for (gives n) text = text
shown_for (refuses k p) text = listing (refused k p)

unfoldable pub shown : Reading (Item F.State S.Section) → ℕ → List ℕ
unfolding list_outcome
shown r room = shown_for (list_outcome r room) (listing r)

-- what is in the output after `list`
abbrev pub list_output : Reading (Item F.State S.Section) → List ℕ → List ℕ
list_output r out = written (list_outcome r (length out)) (listing r) out
