-- What the program prints.
use Rattle.std.specs.Prelude.{Bool, true, false, List, ℕ}
use Rattle.cbf_walk.specs.Reading.{Item, Reading, refused}
use Rattle.cbf_answers.specs.Answers.{Outcome}
use Rattle.cbf_format.specs.Sections.{Section}
use Rattle.cbf_format.specs.Files.{State}
use Rattle.cbf_format.specs.Listing.{listing}
use Rattle.cbf_answers.specs.Rooms.{room_for}
use Rattle.cbf_format.specs.ListCalls.{shown}

-- "Input over 65,536 bytes: `refused 4 at 0`"; else the listing of the file, or the line of its refusal. The flag says
-- that the input goes on behind what was read.
abbrev pub list_text : Bool → Reading (Item State Section) → ℕ → List ℕ
list_text true r room = listing (refused 4 0)
list_text false r room = shown r room

-- its length, where the output has room for it
abbrev pub text_outcome : Bool → Reading (Item State Section) → ℕ → Outcome
text_outcome more r room = room_for (list_text more r room) room
