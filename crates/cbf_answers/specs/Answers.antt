-- What a call answers: a length, or a refusal by document 01's number with its place.
use Rattle.std.specs.Prelude.{ℕ, List, ◌++◌, drop, Result, Ok, Err}
use Rattle.cbf_answers.specs.declared.Refusal.{Refusal}
use Rattle.cbf_answers.specs.declared.Reason.{Reason}
use Rattle.cbf_answers.specs.declared.Reason.TheVariants.{NoIdentifier, LongLine, NotText, TooLarge, MalformedHeader, BadHeader}
use Rattle.cbf_answers.specs.declared.Reason.TheVariants.{CountsDisagree, NoMarker, BadClosing, BadBase64, OpenField, NoSection}
use Rattle.cbf_answers.specs.declared.Reason.TheVariants.{BadOctets, BadPixels, NoRoom, LongName, NotBinary}

-- "A refusal returns its number and place"; success gives the length of what was written
pub data Outcome : Type 0 where
  gives : ℕ → Outcome
  refuses : ℕ → ℕ → Outcome

-- what a call returns, by document 01's numbers
abbrev pub outcome : Result ℕ Refusal → Outcome
outcome (Ok n) = gives n
outcome (Err r) = refuses r.number r.place

-- document 01's number of each reason
abbrev pub number_of : Reason → ℕ
number_of NoIdentifier = 1
number_of LongLine = 2
number_of NotText = 3
number_of TooLarge = 4
number_of MalformedHeader = 5
number_of BadHeader = 6
number_of CountsDisagree = 7
number_of NoMarker = 8
number_of BadClosing = 9
number_of BadBase64 = 10
number_of OpenField = 11
number_of NoSection = 12
number_of BadOctets = 13
number_of BadPixels = 14
number_of NoRoom = 15
number_of LongName = 17
number_of NotBinary = 18

-- "All lent memory keeps its contents. After success, output beyond the answer's length is unchanged too."
unfoldable pub written {ℓ} : {A : Type ℓ} → Outcome → List A → List A → List A
written (gives n) new old = new ++ drop n old
written (refuses number place) new old = old
