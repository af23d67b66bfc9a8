-- Text as bytes, and the tests on it that the rules speak of.
use Prim.Native.String.{String, [] as []ˢ, ◌∷◌ as ◌∷ˢ◌}
use Prim.Native.Char.{code}
use Rattle.std.specs.Prelude.{ℕ, ◌+◌, Bool, true, false, ◌&&◌, ◌||◌, cond, List, [], ◌∷◌, leb, eqb}

-- the bytes of a text of ASCII characters
abbrev pub bytes : String → List ℕ
bytes []ˢ = []
bytes (c ∷ˢ s) = code c ∷ bytes s

-- "Blank" means 9 or 32.
abbrev pub blank : ℕ → Bool
blank x = eqb x 9 || eqb x 32

abbrev pub blanks : List ℕ → Bool
blanks [] = true
blanks (x ∷ t) = blank x && blanks t

-- refusal 3: "text byte other than 9 and 32 to 126"
abbrev pub textual : ℕ → Bool
textual x = eqb x 9 || (leb 32 x && leb x 126)

abbrev pub digit : ℕ → Bool
digit x = leb 48 x && leb x 57

abbrev pub letter : ℕ → Bool
letter x = (leb 65 x && leb x 90) || (leb 97 x && leb x 122)

-- "Names and word values ignore case"
abbrev pub lower : ℕ → ℕ
lower x = cond (leb 65 x && leb x 90) (x + 32) x

abbrev pub lowers : List ℕ → List ℕ
lowers [] = []
lowers (x ∷ t) = lower x ∷ lowers t

-- the same bytes
abbrev pub same : List ℕ → List ℕ → Bool
same [] [] = true
same [] (y ∷ ys) = false
same (x ∷ xs) [] = false
same (x ∷ xs) (y ∷ ys) = eqb x y && same xs ys

-- without the blanks in front; without the blanks around it
abbrev pub skip : List ℕ → List ℕ
skip [] = []
skip (x ∷ t) = let r = skip t in cond (blank x) r (x ∷ t)

abbrev pub add_end : ℕ → List ℕ → List ℕ
add_end x [] = cond (blank x) [] (x ∷ [])
add_end x (y ∷ t) = x ∷ y ∷ t

abbrev pub trim_end : List ℕ → List ℕ
trim_end [] = []
trim_end (x ∷ t) = add_end x (trim_end t)

abbrev pub trim : List ℕ → List ℕ
trim t = trim_end (skip t)

-- what stands before and after the first byte x, none of which is there where x is not
abbrev pub before : ℕ → List ℕ → List ℕ
before x [] = []
before x (y ∷ t) = cond (eqb x y) [] (y ∷ before x t)

abbrev pub after : ℕ → List ℕ → List ℕ
after x [] = []
after x (y ∷ t) = let r = after x t in cond (eqb x y) t r
