-- The parts of a new file, measured or written: for the contracts of the private functions.
use Rattle.std.specs.Prelude.{◌≡◌, Bool, true, false, List, ◌++◌, ℕ, ◌+◌, ◌≤◌, length, ℤ}
use Rattle.std.proofs.Math.Seq.{slice}
use Rattle.std.proofs.lemmas.List.Edits.{sets}
use Rattle.cbf_answers.specs.Limits.{file_limit}
use Rattle.cbf_format.specs.House.{house}
use Rattle.cbf_house.specs.Span.{Packed}
use Rattle.cbf_format.specs.declared.Section.{Section}

-- what is in an output after a part was measured, or written to it from a place on
abbrev pub part_in : Bool → List ℕ → ℕ → List ℕ → List ℕ
part_in false old at part = old
part_in true old at part = sets old at part

-- the file from a place up to the span of a section, and that span in house form with these octets
abbrev pub through_span : List ℕ → ℕ → Section → List ℕ → List ℕ
through_span file from s os = slice from s.from file ++ house s.description os

-- a part of a new file: what is before it has at most 2 ^ 41 bytes, and there is room for it where it is written
pub record PartFits (writing : Bool) (out : List ℕ) (at : ℕ) (part : List ℕ) : Type 0 where
  pub not_far : at ≤ 2_199_023_255_552
  pub room : writing ≡ true → at + length part ≤ length out

-- the span of the section is in the file
pub record SpanIn (file : List ℕ) (s : Section) : Type 0 where
  pub low : s.from ≤ s.to
  pub inside : s.to ≤ length file
  pub short : length file ≤ file_limit

-- a section that gets a new span stands after a place of the file
pub record SpanAhead (file : List ℕ) (from : ℕ) (s : Section) (size : ℕ) (frame : List ℤ) : Type 0 where
  pub span : SpanIn file s
  pub ahead : from ≤ s.from
  pub packed : Packed frame size
  pub few : size ≤ file_limit
