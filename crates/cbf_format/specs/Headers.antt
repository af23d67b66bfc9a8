-- The header lines of a section, and the headers that they make. Document 01, "A section's headers".
use Rattle.std.specs.Prelude.{Option, None, Some}
use Rattle.std.specs.Prelude.{Bool, true, false, ◌||◌, cond, not, List, [], ◌∷◌, ◌++◌, ℕ, zero, suc, ◌+◌, eqb}
use Rattle.cbf_walk.specs.Parsers.{cut, Parser, ret, bind, counted, screen, onward}
use Rattle.cbf_format.specs.Text.{blank, digit, letter, skip, trim}
use Rattle.cbf_format.specs.Lines.{line, refused_byte}

-- "a name (letters, digits, hyphens, at least one), a colon, a value": the name, and what follows the colon
abbrev pub name_byte : ℕ → Bool
name_byte x = letter x || (digit x || eqb x 45)

abbrev pub add_name : ℕ → Option (List ℕ × List ℕ) → Option (List ℕ × List ℕ)
add_name x None = None
add_name x (Some nv) = Some (x ∷ nv.0, nv.1)

abbrev pub split_colon : List ℕ → Option (List ℕ × List ℕ)
split_colon [] = None
split_colon (x ∷ t) = let r = split_colon t in cond (eqb x 58) (Some ([], t)) (cond (name_byte x) (add_name x r) None)

abbrev pub some_name : Option (List ℕ × List ℕ) → Bool
some_name None = false
some_name (Some ([], v)) = false
some_name (Some (x ∷ n, v)) = true

abbrev pub continues : List ℕ → Bool
continues [] = false
continues (x ∷ t) = blank x

-- "A line starting with a blank continues the value .. as first line it is refusal 5"
abbrev pub malformed : Bool → List ℕ → Bool
malformed first [] = false
malformed first (x ∷ t) = cond (blank x) first (not (some_name (split_colon (x ∷ t))))

-- "Line by line come 2 and 3, then 5"
abbrev pub or_malformed : Option (ℕ × ℕ) → Bool → Option (ℕ × ℕ)
or_malformed (Some r) b = Some r
or_malformed None true = Some (5, 0)
or_malformed None false = None

unfoldable pub header_line : ℕ → Bool → Parser (List ℕ)
header_line limit first s = screen (λ t. or_malformed (refused_byte limit 0 t) (malformed first t)) (line s)

-- the lines of a section's headers, each with its place after the boundary line, and the place of the empty line
pub record HeaderLines : Type 0 where
  pub lines : List (ℕ × List ℕ)
  pub empty : ℕ

abbrev pub add_line : ℕ → List ℕ → HeaderLines → HeaderLines
add_line at t hs = record { lines = (at, t) ∷ hs.lines; empty = hs.empty }

-- "A line of length 0 ends the headers"
abbrev pub more_lines : (ℕ → Parser HeaderLines) → ℕ → (List ℕ × ℕ) → Parser HeaderLines
more_lines go at ([], n) = ret (record { lines = []; empty = at })
more_lines go at (x ∷ t, n) = bind (go (at + n)) (λ hs. ret (add_line at (x ∷ t) hs))

-- "no empty line before the file's end is 11"; the first number bounds the lines
unfoldable pub header_lines : ℕ → ℕ → Bool → ℕ → Parser HeaderLines
header_lines limit zero first at s = cut
header_lines limit (suc f) first at s =
    bind (onward (λ r. counted (header_line limit first r))) (more_lines (λ m. header_lines limit f false m) at) s

-- ---- headers, from their lines

pub record Header : Type 0 where
  pub at : ℕ
  pub name : List ℕ
  pub value : List ℕ

-- headers, and the text of continuation lines that stand before them
pub record Grouped : Type 0 where
  pub headers : List Header
  pub text : List ℕ

abbrev pub headed : ℕ → Option (List ℕ × List ℕ) → Grouped → Grouped
headed at None g = g
headed at (Some nv) g = record { headers = record { at = at; name = nv.0; value = trim (nv.1 ++ g.text) } ∷ g.headers; text = [] }

-- "its leading blanks read as one space"; "blanks around the value are dropped"
abbrev pub group : List (ℕ × List ℕ) → Grouped
group [] = record { headers = []; text = [] }
group (l ∷ ls) =
    let g = group ls in
    cond (continues l.1) (record { headers = g.headers; text = 32 ∷ (skip l.1 ++ g.text) }) (headed l.0 (split_colon l.1) g)
