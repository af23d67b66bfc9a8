-- What follows the octets of a section, at a place of the file.
use Rattle.std.specs.Prelude.{List, [], ◌∷◌, ℕ, ◌+◌, Option, None, Some}
use Rattle.cbf_walk.specs.Parsers.{Res, bad, cut, ok}
use Rattle.cbf_format.specs.Lines.{line_end}
use Rattle.cbf_lines.specs.declared.closing.Ending.{Ending}

-- where what was read at a place ends
abbrev pub next_at : {A : Type 0} → ℕ → Res A → Option ℕ
next_at at (bad k p) = None
next_at at cut = None
next_at at (ok a n) = Some (at + n)

-- where a line ends, with a line end or with the file
abbrev pub ended_at : ℕ → List ℕ → Option ℕ
ended_at at [] = Some at
ended_at at (x ∷ xs) = next_at at (line_end (x ∷ xs))

-- what follows the octets: n of its bytes are the span's
abbrev pub closed_at : ℕ → Res ℕ → Option Ending
closed_at at (bad k p) = None
closed_at at cut = None
closed_at at (ok n m) = Some (record { to = at + n; next = at + m })
