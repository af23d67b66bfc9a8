-- BASE64 text. Document 01, "The octets and their end".
use Rattle.std.specs.Prelude.{Option, None, Some}
use Rattle.std.specs.Prelude.{Bool, true, false, ◌&&◌, cond, List, [], ◌∷◌, ◌++◌, ℕ, zero, suc, ◌+◌, ◌*◌, ◌-◌, ◌/◌, ◌%◌, leb, ltb, eqb, length}
use Rattle.cbf_walk.specs.Parsers.{cut, Parser, ret, bind, counted, screen, onward}
use Rattle.cbf_format.specs.declared.Symbol.{Symbol}
use Rattle.cbf_format.specs.declared.Symbol.TheVariants.{Letter, Pad, Blank, Other}
use Rattle.cbf_format.specs.Text.{blank, textual, same}
use Rattle.cbf_format.specs.Lines.{line}

-- "Letters A to Z are 0 to 25, a to z 26 to 51, 0 to 9 are 52 to 61, `+` 62, `/` 63. Blanks are skipped."
unfoldable pub symbol : ℕ → Symbol
symbol x =
    cond (leb 65 x && leb x 90) (Letter (x - 65))
    (cond (leb 97 x && leb x 122) (Letter (x - 71))
    (cond (leb 48 x && leb x 57) (Letter (x + 4))
    (cond (eqb x 43) (Letter 62)
    (cond (eqb x 47) (Letter 63)
    (cond (eqb x 61) Pad
    (cond (blank x) Blank Other))))))

abbrev pub is_other : Symbol → Bool
is_other (Letter n) = false
is_other Pad = false
is_other Blank = false
is_other Other = true

-- "A byte that is not a letter, `=` or blank is 10 at that byte, after 3 and 2 there"
abbrev pub refused_symbol : ℕ → ℕ → List ℕ → Option (ℕ × ℕ)
refused_symbol limit i [] = None
refused_symbol limit i (x ∷ t) =
    cond (textual x) (cond (ltb i limit) (cond (is_other (symbol x)) (Some (10, i)) (refused_symbol limit (suc i) t)) (Some (2, i))) (Some (3, i))

-- the letters and pads of a text, and the place of the closing line after it
pub record Letters : Type 0 where
  pub symbols : List Symbol
  pub closing : ℕ

abbrev pub add_symbol : Symbol → List Symbol → List Symbol
add_symbol (Letter n) l = Letter n ∷ l
add_symbol Pad l = Pad ∷ l
add_symbol Blank l = l
add_symbol Other l = l

abbrev pub add_symbols : List ℕ → List Symbol → List Symbol
add_symbols [] l = l
add_symbols (x ∷ t) l = add_symbol (symbol x) (add_symbols t l)

-- "text lines until that closing line": `boundary` is it
abbrev pub refused_text : ℕ → List ℕ → List ℕ → Option (ℕ × ℕ)
refused_text limit boundary t = cond (same t boundary) None (refused_symbol limit 0 t)

abbrev pub more_text : Bool → (ℕ → Parser Letters) → ℕ → (List ℕ × ℕ) → Parser Letters
more_text true go at tn = ret (record { symbols = []; closing = at })
more_text false go at tn = bind (go (at + tn.1)) (λ l. ret (record { symbols = add_symbols tn.0 l.symbols; closing = l.closing }))

-- "File end before the closing line is 11"; the second number bounds the lines, `at` is the place of the first
unfoldable pub letters : ℕ → List ℕ → ℕ → ℕ → Parser Letters
letters limit boundary zero at s = cut
letters limit boundary (suc f) at s =
    bind (onward (λ r. counted (screen (refused_text limit boundary) (line r))))
    (λ tn. more_text (same tn.0 boundary) (λ m. letters limit boundary f m) at tn)
    s

-- ---- "groups of four, `=` only as one or two at the very end, unused bits zero"

abbrev pub add_octets : List ℕ → Option (List ℕ) → Option (List ℕ)
add_octets xs None = None
add_octets xs (Some os) = Some (xs ++ os)

abbrev pub last_group : Bool → List ℕ → Option (List ℕ)
last_group true xs = Some xs
last_group false xs = None

abbrev pub six : Symbol → Option ℕ
six (Letter n) = Some n
six Pad = None
six Blank = None
six Other = None

abbrev pub is_pad : Symbol → Bool
is_pad (Letter n) = false
is_pad Pad = true
is_pad Blank = false
is_pad Other = false

-- a group by its six-bit numbers; whether its third and fourth symbols are pads; whether it is the last; and what
-- follows it
abbrev pub from_group : Option ℕ → Option ℕ → Option ℕ → Option ℕ → Bool → Bool → Bool → Option (List ℕ) → Option (List ℕ)
from_group (Some a) (Some b) (Some c) (Some d) p q last r = add_octets ((a * 4 + b / 16) ∷ (b % 16 * 16 + c / 4) ∷ (c % 4 * 64 + d) ∷ []) r
from_group (Some a) (Some b) (Some c) None p q last r = last_group (q && (last && eqb (c % 4) 0)) ((a * 4 + b / 16) ∷ (b % 16 * 16 + c / 4) ∷ [])
from_group (Some a) (Some b) None None p q last r = last_group ((p && q) && (last && eqb (b % 16) 0)) ((a * 4 + b / 16) ∷ [])
from_group (Some a) (Some b) None (Some d) p q last r = None
from_group (Some a) None c d p q last r = None
from_group None b c d p q last r = None

abbrev pub is_empty : List Symbol → Bool
is_empty [] = true
is_empty (x ∷ l) = false

-- What this and from_group are is said by two laws in proofs/Base64Laws: octets are read from what they are written as
-- (`written` in Base64Text; decode-written), and from nothing else (decode-only).
unfoldable pub decode : List Symbol → Option (List ℕ)
decode [] = Some []
decode (a ∷ []) = None
decode (a ∷ b ∷ []) = None
decode (a ∷ b ∷ c ∷ []) = None
decode (a ∷ b ∷ c ∷ d ∷ l) = let r = decode l in from_group (six a) (six b) (six c) (six d) (is_pad c) (is_pad d) (is_empty l) r

-- "octet count as declared"
abbrev pub sized : ℕ → Option (List ℕ) → Option (List ℕ)
sized size None = None
sized size (Some os) = cond (eqb (length os) size) (Some os) None
