-- What BASE64 text that was read says, at places of the file: its letters as numbers, and these as octets.
use Rattle.std.specs.Prelude.{◌≡◌, Bool, true, not, ◌||◌, ◌⊎◌, List, [], ◌∷◌, ◌++◌, ℕ, ◌+◌, ◌<◌, ◌≤◌, eqb, length, take, get_or}
use Rattle.std.proofs.lemmas.List.Edits.{sets}
use Rattle.std.proofs.Math.Seq.{slice}
use Rattle.cbf_format.specs.Base64.{symbol, is_other}
use Rattle.cbf_format.specs.Listing.{Placed, position}
use Rattle.cbf_lines.specs.Text.{is_letter}
use Rattle.cbf_letters.specs.Letters.{sixes, sixes_octets}

-- a byte that good text may have: a letter, a pad, a blank, or of a line end
abbrev pub text_byte : ℕ → Bool
text_byte x = not (is_other (symbol x)) || (eqb x 10 || eqb x 13)

-- the bytes of the file from `from` up to `to` are such
abbrev pub GoodText : List ℕ → ℕ → ℕ → Type 0
GoodText file from to = (i : ℕ) → from ≤ i → i < to → text_byte (get_or file i 0) ≡ true

-- they are letters
abbrev pub LettersOnly : List ℕ → ℕ → ℕ → Type 0
LettersOnly file from to = (i : ℕ) → from ≤ i → i < to → is_letter (symbol (get_or file i 0)) ≡ true

-- the first n numbers of a list have six bits
abbrev pub SixesOnly : List ℕ → ℕ → Type 0
SixesOnly numbers n = (i : ℕ) → i < n → get_or numbers i 0 < 64

-- the first letter from a place on, and the place after it; 0 and the end where there is none
pub record NextLetterSays (file : List ℕ) (at to number next : ℕ) : Type 0 where
  pub low : at ≤ next
  pub high : next ≤ to
  pub small : number < 64
  pub says : ((at < next) × (sixes (slice at to file) ≡ number ∷ sixes (slice next to file)))
      ⊎ ((number ≡ 0) × (next ≡ to) × (sixes (slice at to file) ≡ []))

-- the octets of the text from a place on
abbrev pub text_octets : List ℕ → ℕ → ℕ → List ℕ
text_octets file at to = sixes_octets (sixes (slice at to file))

-- the text of a BASE64 section, from its first byte up to the closing boundary, with whose 31 bytes the span ends
pub record TextOf (file : List ℕ) (p : Placed) (to : ℕ) : Type 0 where
  pub end : to + 31 ≡ p.boundary + p.section.width
  pub begun : position p ≤ to
  pub inside : to ≤ length file
  pub good_text : GoodText file (position p) to
  pub enough : p.section.description.size ≤ length (text_octets file (position p) to)
  pub octets : p.section.octets ≡ take p.section.description.size (text_octets file (position p) to)

-- the first octets of the text from `at` on were written to out from `from` up to `end`, giving out'; the others are
-- those from at' on
pub record Decodes (file : List ℕ) (at to : ℕ) (out : List ℕ) (from : ℕ) (out' : List ℕ) (at' end : ℕ) : Type 0 where
  pub octets : List ℕ
  pub many : from + length octets ≡ end
  pub wrote : out' ≡ sets out from octets
  pub rest : text_octets file at to ≡ octets ++ text_octets file at' to
  pub low : at ≤ at'
  pub high : at' ≤ to
  pub room : end ≤ length out
