-- What the parsers of lines say, at a place of the file.
use Rattle.std.specs.Prelude.{cond, List, [], ◌∷◌, ℕ, ◌+◌, ◌-◌, eqb, ltb, length, Result, Ok, Err}
use Rattle.cbf_walk.specs.Parsers.{Res, bad, cut, ok, hd}
use Rattle.cbf_format.specs.Lines.{end_length}
use Rattle.cbf_answers.specs.declared.Refusal.{Refusal}
use Rattle.cbf_lines.specs.declared.line.Line.{Line}

-- limit bytes after a place, or the file's end
abbrev pub farthest_from : ℕ → ℕ → ℕ → ℕ
farthest_from at limit len = cond (ltb limit (len - at)) (at + limit) len

-- where the line end of the bytes from at on ends
abbrev pub end_from : ℕ → List ℕ → ℕ
end_from at [] = at
end_from at (x ∷ xs) = cond (eqb x 13) (at + end_length (hd xs)) (at + 1)

-- a line that was read at a place: where its text ends, and where the next line starts. No line is cut.
abbrev pub line_at : ℕ → Res (List ℕ) → Result Line Refusal
line_at at (bad k p) = Err (record { number = k; place = at + p })
line_at at cut = Err (record { number = 11; place = at })
line_at at (ok t n) = Ok (record { to = at + length t; next = at + n })
