-- Reading a file. Document 01, "Lines, fields, blocks".
use Rattle.std.specs.Prelude.{Option, None, Some}
use Rattle.std.specs.Prelude.{Bool, true, false, ◌&&◌, ◌||◌, cond, List, [], ◌∷◌, ℕ, suc, ◌+◌, leb, eqb, length, take, drop}
use Rattle.cbf_walk.specs.Parsers.{Parser, ret, bind, counted, screen}
use Rattle.cbf_walk.specs.Reading.{Item, Reading, refused, read_f}
use Rattle.cbf_format.specs.Text.{bytes, blank, blanks, digit, lowers, same, skip}
use Rattle.cbf_format.specs.Lines.{line, refused_byte, text_line}
use Rattle.cbf_format.specs.Sections.{opening, Section, section}
use Rattle.cbf_answers.specs.Limits.{file_limit}

-- ---- "The first line starts with `###CBF: VERSION`, one or more blanks, the digit 0 or 1, a point, a digit"

abbrev pub versioned : List ℕ → Bool
versioned (x ∷ y ∷ z ∷ t) = (eqb x 48 || eqb x 49) && (eqb y 46 && digit z)
versioned [] = false
versioned (x ∷ []) = false
versioned (x ∷ y ∷ []) = false

abbrev pub blank_then : List ℕ → Bool
blank_then [] = false
blank_then (x ∷ t) = blank x && versioned (skip t)

unfoldable pub identified : List ℕ → Bool
identified t = same (take 15 t) (bytes "###CBF: VERSION") && blank_then (drop 15 t)

-- "Test 1 comes before 2 and 3 on it"
abbrev pub refused_first : ℕ → List ℕ → Option (ℕ × ℕ)
refused_first limit t = cond (identified t) (refused_byte limit 0 t) (Some (1, 0))

-- ---- the state between two lines: in a field, how many bytes back its opening `;` is

pub data Field : Type 0 where
  first_line : Field
  outside : Field
  opened : ℕ → Field
  inside : ℕ → Field

pub record State : Type 0 where
  pub count : ℕ
  pub block : List ℕ
  pub field : Field

abbrev pub start : State
start = record { count = 0; block = []; field = first_line }

-- 11: "file ends inside a field .. the opening `;`"
abbrev pub open_field : Field → Option ℕ
open_field first_line = None
open_field outside = None
open_field (opened n) = Some n
open_field (inside n) = Some n

unfoldable pub due : State → Option ℕ
due st = open_field st.field

abbrev pub starts_field : List ℕ → Bool
starts_field [] = false
starts_field (x ∷ t) = eqb x 59

-- "a line starting with `;` opens a field. If it is `;` and blanks only, and the next line is exactly (the boundary)
-- .. the field is a binary section. Any other field ends at its next line starting with `;`"
abbrev pub next_field : Field → List ℕ → ℕ → Field
next_field first_line t n = outside
next_field outside t n = cond (starts_field t) (cond (blanks (drop 1 t)) (opened n) (inside n)) outside
next_field (opened m) t n = cond (starts_field t) outside (inside (m + n))
next_field (inside m) t n = cond (starts_field t) outside (inside (m + n))

abbrev pub up_to_blank : List ℕ → List ℕ
up_to_blank [] = []
up_to_blank (x ∷ t) = cond (blank x) [] (x ∷ up_to_blank t)

-- "A line outside fields starting with `data_` (any case) sets the block name: what follows up to a blank or the
-- line's end"
abbrev pub next_block : Field → List ℕ → List ℕ → List ℕ
next_block first_line t block = block
next_block outside t block = cond (same (lowers (take 5 t)) (bytes "data_")) (up_to_blank (drop 5 t)) block
next_block (opened m) t block = block
next_block (inside m) t block = block

abbrev pub after_line : State → List ℕ → ℕ → State
after_line st t n = record { count = st.count; block = next_block st.field t st.block; field = next_field st.field t n }

abbrev pub after_section : State → State
after_section st = record { count = suc st.count; block = st.block; field = outside }

-- ---- one step: a line, or a whole section

abbrev pub is_opened : Field → Bool
is_opened first_line = false
is_opened outside = false
is_opened (opened m) = true
is_opened (inside m) = false

abbrev pub is_boundary : State → List ℕ → Bool
is_boundary st t = is_opened st.field && same t opening

-- "Sections: at most 512"; 4 for the "513th section: its boundary line"
abbrev pub one_too_many : State → List ℕ → Option (ℕ × ℕ)
one_too_many st t = cond (is_boundary st t && leb 512 st.count) (Some (4, 0)) None

abbrev pub step_line : ℕ → Field → Parser (List ℕ)
step_line limit first_line s = screen (refused_first limit) (line s)
step_line limit outside s = text_line limit s
step_line limit (opened m) s = text_line limit s
step_line limit (inside m) s = text_line limit s

abbrev pub section_or : Bool → Parser (Option Section × State) → Parser (Option Section × State) → Parser (Option Section × State)
section_or true p q = p
section_or false p q = q

abbrev pub after_step_line : ℕ → State → (List ℕ × ℕ) → Parser (Option Section × State)
after_step_line limit st tn =
    section_or (is_boundary st tn.0)
    (bind (section limit st.block tn.1) (λ i. ret (Some i, after_section st)))
    (ret (None, after_line st tn.0 tn.1))

unfoldable pub step : ℕ → State → Parser (Option Section × State)
step limit st = bind (λ s. counted (screen (one_too_many st) (step_line limit st.field s))) (after_step_line limit st)

-- ---- "too long comes before all"; "An empty file is refusal 1"

abbrev pub Tree : Type 0
Tree = List (Item State Section)

abbrev pub read_some : ℕ → List ℕ → Reading (Item State Section)
read_some limit [] = refused 1 0
read_some limit (x ∷ xs) = read_f 11 (step limit) due file_limit 0 start (x ∷ xs)

unfoldable pub read : ℕ → List ℕ → Reading (Item State Section)
read limit file = cond (leb (length file) file_limit) (read_some limit file) (refused 4 0)
