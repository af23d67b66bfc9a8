-- Headers, at places of the file: for the functions that pass over them a second time, header by header.
use Rattle.std.specs.Prelude.{◌≡◌, Bool, false, List, [], ◌∷◌, ℕ, ◌+◌, ◌-◌, ◌≤◌, ◌<◌, length, drop}
use Rattle.std.specs.Prelude.{Option, None}
use Rattle.cbf_walk.specs.Parsers.{ok}
use Rattle.cbf_format.specs.Text.{trim}
use Rattle.cbf_format.specs.Lines.{line, refused_byte}
use Rattle.cbf_format.specs.Headers.{or_malformed, malformed, continues, group}
use Rattle.cbf_values.specs.Value.{joined}

-- ---- the lines

-- what is tested of a header line
abbrev pub refused_header : ℕ → Bool → List ℕ → Option (ℕ × ℕ)
refused_header limit first t = or_malformed (refused_byte limit 0 t) (malformed first t)

-- a header line l that starts m bytes after at
pub record LineHere (file : List ℕ) (at limit : ℕ) (first : Bool) (m : ℕ) (l : ℕ × List ℕ) : Type 0 where
  pub place : l.0 ≡ m
  pub taken : ℕ
  pub reads : line (drop (at + m) file) ≡ ok l.1 taken
  pub passes : refused_header limit first l.1 ≡ None
  pub some_text : 0 < length l.1
  pub moves : 0 < taken
  pub inside : at + (m + taken) ≤ length file

-- the empty line, m bytes after at
pub record EmptyHere (file : List ℕ) (at m empty after : ℕ) : Type 0 where
  pub place : empty ≡ m
  pub taken : ℕ
  pub reads : line (drop (at + m) file) ≡ ok [] taken
  pub moves : 0 < taken
  pub ends : after ≡ m + taken
  pub inside : at + after ≤ length file

-- these lines, each where the line before ends, the first of them m bytes after at, and then the empty line
abbrev pub LinesHere : List ℕ → ℕ → ℕ → ℕ → ℕ → Bool → ℕ → List (ℕ × List ℕ) → Type 0
LinesHere file at limit empty after first m [] = EmptyHere file at m empty after
LinesHere file at limit empty after first m (l ∷ ls) =
    (h : LineHere file at limit first m l) × LinesHere file at limit empty after false (m + h.taken) ls

-- they start with no line that continues another
abbrev pub Fresh : List (ℕ × List ℕ) → Type 0
Fresh [] = Unit {0}
Fresh (l ∷ ls) = continues l.1 ≡ false

-- ---- the headers

-- from a place up to the empty line: some of the lines that were read from `at` on, the first of which starts a header
pub record HeadersHere (file : List ℕ) (from empty : ℕ) : Type 0 where
  pub at : ℕ
  pub limit : ℕ
  pub after : ℕ
  pub first : Bool
  pub m : ℕ
  pub e : ℕ
  pub lines : List (ℕ × List ℕ)
  pub is_from : from ≡ at + m
  pub is_empty : empty ≡ at + e
  pub here : LinesHere file at limit e after first m lines
  pub fresh : Fresh lines
  pub inside : empty < length file

-- the first of these headers, and the headers after it, which start at next
pub record HeaderParts (file : List ℕ) (from empty : ℕ) (h : HeadersHere file from empty) (name value : List ℕ)
    (next : ℕ) : Type 0 where
  pub rest : List (ℕ × List ℕ)
  pub grouped : group h.lines
      ≡ record {
        headers = record { at = h.m; name = name; value = trim (joined value) } ∷ (group rest).headers;
        text = [];
      }
  pub here : LinesHere file h.at h.limit h.e h.after false (next - h.at) rest
  pub fresh : Fresh rest
  pub moves : from < next
  pub next_in : next ≤ empty
