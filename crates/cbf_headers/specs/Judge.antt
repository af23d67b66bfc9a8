-- What judging the headers gives.
use Rattle.std.specs.Prelude.{ℕ, ◌+◌, Result, Ok, Err}
use Rattle.cbf_headers.specs.Found.{found_of}
use Rattle.cbf_headers.specs.declared.found.Found.{Found}
use Rattle.cbf_format.specs.Descriptions as D

-- the headers' values, or the place of the header that is refused
abbrev pub judged_at : ℕ → D.Judged → Result Found ℕ
judged_at at (D.refused_at p) = Err (at + p)
judged_at at (D.found fs) = Ok (found_of fs)
