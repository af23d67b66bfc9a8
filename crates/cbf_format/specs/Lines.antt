-- Lines. Document 01, "Lines, fields, blocks". `limit` is the most characters that a text line may have.
use Rattle.std.specs.Prelude.{Option, None, Some}
use Rattle.std.specs.Prelude.{Bool, true, false, ◌&&◌, cond, List, [], ◌∷◌, ℕ, suc, leb, ltb, eqb, length, take}
use Rattle.cbf_walk.specs.Parsers.{Res, bad, cut, ok, Parser, hd, counted, screen}
use Rattle.cbf_format.specs.Text.{blanks, textual, same}

-- "A line ends with 13 10, 13 alone, 10 alone, or the file's end": how long a line end is that begins with 13
abbrev pub end_length : Option ℕ → ℕ
end_length None = 1
end_length (Some y) = cond (eqb y 10) 2 1

abbrev pub add_byte : ℕ → Res (List ℕ) → Res (List ℕ)
add_byte x (bad k p) = bad k p
add_byte x cut = cut
add_byte x (ok t n) = ok (x ∷ t) (suc n)

-- by whether the first byte is 10, and whether it is 13
abbrev pub line_or : Bool → Bool → ℕ → List ℕ → Res (List ℕ) → Res (List ℕ)
line_or true c x xs r = ok [] 1
line_or false true x xs r = ok [] (end_length (hd xs))
line_or false false x xs r = add_byte x r

-- the first line: its bytes without the line end, taken with the line end
abbrev pub line : Parser (List ℕ)
line [] = ok [] 0
line (x ∷ xs) = let r = line xs in line_or (eqb x 10) (eqb x 13) x xs r

-- "Bytes of a line are tested in order; at the same byte 3 comes before 2": the first byte of a text line that is
-- refused, where these are the bytes from column i on
abbrev pub refused_byte : ℕ → ℕ → List ℕ → Option (ℕ × ℕ)
refused_byte limit i [] = None
refused_byte limit i (x ∷ t) = cond (textual x) (cond (ltb i limit) (refused_byte limit (suc i) t) (Some (2, i))) (Some (3, i))

unfoldable pub text_line : ℕ → Parser (List ℕ)
text_line limit s = screen (refused_byte limit 0) (line s)

-- a line end and no more
abbrev pub only_end : (List ℕ × ℕ) → Option (ℕ × ℕ)
only_end tn = cond (same tn.0 [] && leb 1 tn.1) None (Some (9, 0))

unfoldable pub line_end : Parser (List ℕ × ℕ)
line_end s = screen only_end (counted (line s))

-- n bytes, or refusal 9 at the file's end where there are fewer
unfoldable pub exactly : ℕ → Parser (List ℕ)
exactly n s = cond (leb n (length s)) (ok (take n s) n) (bad 9 (length s))

-- just these bytes
unfoldable pub literal : List ℕ → Parser (List ℕ)
literal w s = screen (λ t. cond (same t w) None (Some (9, 0))) (exactly (length w) s)

-- "`;` with at most 79 blanks", where a line has at most 80 characters
abbrev pub semicolon : ℕ → List ℕ → Option (ℕ × ℕ)
semicolon limit [] = Some (9, 0)
semicolon limit (x ∷ t) = cond (eqb x 59 && (blanks t && ltb (length t) limit)) None (Some (9, 0))

unfoldable pub semicolon_line : ℕ → Parser (List ℕ)
semicolon_line limit s = screen (semicolon limit) (line s)
