-- The six-bit numbers of a BASE64 text, and the octets that they are.
use Rattle.std.specs.Prelude.{List, [], ◌∷◌, ◌++◌, ℕ, ◌+◌, ◌*◌, ◌/◌, ◌%◌}
use Rattle.cbf_format.specs.declared.Symbol.{Symbol}
use Rattle.cbf_format.specs.declared.Symbol.TheVariants.{Letter, Pad, Blank, Other}
use Rattle.cbf_format.specs.Base64.{symbol}

abbrev pub add_six : Symbol → List ℕ → List ℕ
add_six (Letter n) l = n ∷ l
add_six Pad l = l
add_six Blank l = l
add_six Other l = l

-- the numbers of a text's letters: pads, blanks and line ends are passed over
unfoldable pub sixes : List ℕ → List ℕ
sixes [] = []
sixes (x ∷ t) = add_six (symbol x) (sixes t)

-- the octets of a group of four letters
abbrev pub group_octets : ℕ → ℕ → ℕ → ℕ → List ℕ
group_octets a b c d = (a * 4 + b / 16) ∷ (b % 16 * 16 + c / 4) ∷ (c % 4 * 64 + d) ∷ []

-- the octets of all letters; where the last group lacks letters, zeros stand for them
unfoldable pub sixes_octets : List ℕ → List ℕ
sixes_octets [] = []
sixes_octets (a ∷ []) = group_octets a 0 0 0
sixes_octets (a ∷ b ∷ []) = group_octets a b 0 0
sixes_octets (a ∷ b ∷ c ∷ []) = group_octets a b c 0
sixes_octets (a ∷ b ∷ c ∷ d ∷ l) = group_octets a b c d ++ sixes_octets l
