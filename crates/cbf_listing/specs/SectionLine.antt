-- The line of a section, from the section of the code.
use Rattle.std.specs.Prelude.{List, [], ◌++◌, ℕ}
use Rattle.std.proofs.Math.Seq.{slice}
use Rattle.cbf_format.specs.Listing.{printed, spaced, section_text}
use Rattle.cbf_format.specs.declared.Section.{Section}

-- the line of a section of the code
abbrev pub line_for : List ℕ → ℕ → Section → List ℕ
line_for file number s =
    let d = s.description in
    section_text number s.first d.size d.elements d.compression d.kind (slice s.block.from s.block.to file)

-- a number and a space, and the four numbers of a line
abbrev pub figure : ℕ → List ℕ
figure n = spaced (printed n) []

abbrev pub figures : ℕ → ℕ → ℕ → ℕ → List ℕ
figures number at size elements = figure number ++ (figure at ++ (figure size ++ figure elements))
