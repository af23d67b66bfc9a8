-- The head of a section in house form: for the contracts of the private functions.
use Rattle.std.specs.Prelude.{Option, Some, List, [], ◌∷◌, ◌++◌, ℕ}
use Rattle.cbf_format.specs.declared.Description.{Description}
use Rattle.cbf_format.specs.Sections.{opening, marker}
use Rattle.cbf_format.specs.House.{ended, ended_lines, number_line, house_lines}
use Rattle.cbf_house.specs.declared.head.Piece.{Piece}
use Rattle.cbf_house.specs.declared.head.Piece.TheVariants.{Text, Line}

-- what stands before the octets
unfoldable pub head_text : Description → ℕ → List ℕ
head_text d size = ended opening ++ (ended_lines (house_lines size d) ++ (13 ∷ 10 ∷ marker))

-- a line with a number, or none
abbrev pub line_text : List ℕ → Option ℕ → List ℕ
line_text name n = ended_lines (number_line name n [])

-- what is written for a piece of it, and for several
abbrev pub text_of : Piece → List ℕ
text_of (Text t) = t.now
text_of (Line name n) = line_text name.now (Some n)

unfoldable pub texts_of : List Piece → List ℕ
texts_of [] = []
texts_of (p ∷ ps) = text_of p ++ texts_of ps
