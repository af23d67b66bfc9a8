-- The value of a header, as the code walks it. Document 01: "A line starting with a blank continues the value, its
-- leading blanks read as one space".
use Rattle.std.specs.Prelude.{◌≡◌, Bool, false, cond, ◌||◌, List, [], ◌∷◌, ℕ, ◌+◌, ◌-◌, ◌<◌, ◌≤◌, eqb, length, get_or}
use Rattle.std.specs.Prelude.{drop, Option, None, Some}
use Rattle.std.specs.Borrow.{Bor}
use Rattle.std.proofs.Math.Seq.{slice}
use Rattle.cbf_format.specs.Text.{blank}

-- in a line's text, after its 13, or in the blanks that a continuation line starts with
pub data Within : Type 0 where
  in_text : Within
  after_13 : Within
  in_blanks : Within

-- a value that may run over lines, with its line ends, as one text: a line end and the blanks after it are one space
unfoldable pub joined_from : Within → List ℕ → List ℕ
joined_from w [] = []
joined_from in_text (x ∷ t) =
    cond (eqb x 13) (32 ∷ joined_from after_13 t) (cond (eqb x 10) (32 ∷ joined_from in_blanks t) (x ∷ joined_from in_text t))
joined_from after_13 (x ∷ t) =
    cond (eqb x 10) (joined_from in_blanks t)
    (cond (eqb x 13) (32 ∷ joined_from after_13 t) (cond (blank x) (joined_from in_blanks t) (x ∷ joined_from in_text t)))
joined_from in_blanks (x ∷ t) =
    cond (eqb x 10) (32 ∷ joined_from in_blanks t)
    (cond (eqb x 13) (32 ∷ joined_from after_13 t) (cond (blank x) (joined_from in_blanks t) (x ∷ joined_from in_text t)))

unfoldable pub joined : List ℕ → List ℕ
joined t = joined_from in_text t

-- the first character of the value, and the rest of it
abbrev pub Stepped : List ℕ → Option (ℕ × Bor (List ℕ)) → Type 0
Stepped text None = joined text ≡ []
Stepped text (Some c) = joined text ≡ c.0 ∷ joined c.1.now

-- a byte of a line end
abbrev pub end_byte : ℕ → Bool
end_byte x = eqb x 13 || eqb x 10

-- a blank or a byte of a line end
abbrev pub blank_or_end : ℕ → Bool
blank_or_end x = end_byte x || blank x

-- a value with no blank and no line end at either end
pub record Trimmed (text : List ℕ) : Type 0 where
  pub front : 0 < length text → blank_or_end (get_or text 0 0) ≡ false
  pub back : 0 < length text → blank_or_end (get_or text (length text - 1) 0) ≡ false

-- a part of a text, as it stands there from a place on
pub record PartOf (text part : List ℕ) : Type 0 where
  pub at : ℕ
  pub inside : at + length part ≤ length text
  pub stands : part ≡ slice at (at + length part) text

-- the rest of a text, as it stands there after least bytes or more
pub record RestOf (text : List ℕ) (least : ℕ) (rest : List ℕ) : Type 0 where
  pub next : ℕ
  pub passed : least ≤ next
  pub inside : next ≤ length text
  pub stands : rest ≡ drop next text
