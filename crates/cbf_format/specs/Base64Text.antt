-- BASE64 text as it is written. Of the octets that a text stands for a reader needs to believe only this: `decode` in
-- Base64 gives octets exactly where the text is what they are written as (decode-written and decode-only in
-- proofs/Base64Laws).
-- Source document 003: "BASE64 encoding follows MIME conventions. Octets are in groups of three: c1, c2, c3."
use Rattle.std.specs.Prelude.{List, [], ◌∷◌, ℕ, ◌+◌, ◌*◌, ◌/◌, ◌%◌, get_or}
use Rattle.cbf_format.specs.declared.Symbol.{Symbol}
use Rattle.cbf_format.specs.Text.{bytes}
use Rattle.cbf_format.specs.Base64.{add_symbols}

-- "translated into an ASCII character using the mapping"; document 01: "Letters A to Z are 0 to 25, a to z 26 to 51,
-- .."
abbrev pub alphabet : List ℕ
alphabet = bytes "ABCDEFGHIJKLMNOPQRSTUVWXYZabcdefghijklmnopqrstuvwxyz0123456789+/"

unfoldable pub letter_of : ℕ → ℕ
letter_of n = get_or alphabet n 0

-- "the high-order six bits (c1 >> 2) of the first octet, then .. [(c1 & 3)<<4 | (c2>>4)], then .. [(c2 & 15)<<2 |
-- (c3>>6)], then .. (c3 & 63)"; "short groups of octets padded on the right with one '=' if c3 is missing, and with
-- '==' if both c2 and c3 are missing"
unfoldable pub encode : List ℕ → List ℕ
encode [] = []
encode (c1 ∷ []) = letter_of (c1 / 4) ∷ letter_of (c1 % 4 * 16) ∷ 61 ∷ 61 ∷ []
encode (c1 ∷ c2 ∷ []) = letter_of (c1 / 4) ∷ letter_of (c1 % 4 * 16 + c2 / 16) ∷ letter_of (c2 % 16 * 4) ∷ 61 ∷ []
encode (c1 ∷ c2 ∷ c3 ∷ os) =
    letter_of (c1 / 4) ∷ letter_of (c1 % 4 * 16 + c2 / 16) ∷ letter_of (c2 % 16 * 4 + c3 / 64) ∷ letter_of (c3 % 64) ∷ encode os

-- the same as letters and pads
abbrev pub written_symbols : List ℕ → List Symbol
written_symbols os = add_symbols (encode os) []
