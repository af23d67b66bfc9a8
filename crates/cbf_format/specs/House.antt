-- House form: document 01's own term for the one way in which a section is written. Document 01, "House form,
-- catalogue, listing": "Replacement rewrites the span .., always byte offset, keeping type, ID and dimensions; other
-- headers go."
use Rattle.std.specs.Prelude.{Option, None, Some}
use Rattle.std.specs.Prelude.{cond, List, [], ◌∷◌, ◌++◌, ℕ, suc, ◌+◌, eqb, length}
use Rattle.cbf_format.specs.Text.{bytes}
use Rattle.cbf_format.specs.Values.{type_words}
use Rattle.cbf_format.specs.declared.Description.{Description}
use Rattle.cbf_format.specs.Descriptions.{optional}
use Rattle.cbf_walk.specs.Exchange.{Exchange, exchanged}
use Rattle.cbf_format.specs.Sections.{opening, closing, marker}
use Rattle.cbf_format.specs.Listing.{printed, Placed}

-- "With each line ended 13 10"
abbrev pub ended : List ℕ → List ℕ
ended t = t ++ (13 ∷ 10 ∷ [])

unfoldable pub ended_lines : List (List ℕ) → List ℕ
ended_lines [] = []
ended_lines (l ∷ ls) = ended l ++ ended_lines ls

-- "Numbers have no leading zeros"; "an absent ID has no line", nor has a dimension
abbrev pub number_line : List ℕ → Option ℕ → List (List ℕ) → List (List ℕ)
number_line name None ls = ls
number_line name (Some n) ls = (name ++ printed n) ∷ ls

-- the header lines of a section with that many octets; "Dimension lines, if any, follow the elements line, fastest
-- first"
unfoldable pub house_lines : ℕ → Description → List (List ℕ)
house_lines size d =
    bytes "Content-Type: application/octet-stream;"
    ∷ bytes "     conversions=\"x-CBF_BYTE_OFFSET\""
    ∷ bytes "Content-Transfer-Encoding: BINARY"
    ∷ number_line (bytes "X-Binary-Size: ") (Some size)
    (number_line (bytes "X-Binary-ID: ") (optional d.id)
    ((bytes "X-Binary-Element-Type: \"" ++ (type_words d.kind ++ bytes "\""))
    ∷ bytes "X-Binary-Element-Byte-Order: LITTLE_ENDIAN"
    ∷ number_line (bytes "X-Binary-Number-of-Elements: ") (Some d.elements)
    (number_line (bytes "X-Binary-Size-Fastest-Dimension: ") (optional d.fastest)
    (number_line (bytes "X-Binary-Size-Second-Dimension: ") (optional d.second)
    (number_line (bytes "X-Binary-Size-Third-Dimension: ") (optional d.third) [])))))

-- the span of a section in house form, with these octets
unfoldable pub house : Description → List ℕ → List ℕ
unfolding ended_lines house_lines
house d os = ended opening ++ (ended_lines (house_lines (length os) d) ++ (13 ∷ 10 ∷ (marker ++ (os ++ (13 ∷ 10 ∷ closing)))))

-- ---- sections replaced

-- the span of a section is exchanged for house form with these octets
abbrev pub in_house : Placed → List ℕ → Exchange
in_house p os =
    record {
      from = p.boundary;
      to = p.boundary + p.section.width;
      new = house p.section.description os;
    }

-- the file with one section replaced
unfoldable pub replaced_file : List ℕ → Placed → List ℕ → List ℕ
unfolding exchanged
replaced_file file p os = exchanged 0 (in_house p os ∷ []) file

-- the new octets of some sections, by their numbers
abbrev pub NewOctets : Type 0
NewOctets = ℕ → Option (List ℕ)

-- of section n alone
abbrev pub only : ℕ → List ℕ → NewOctets
only n os m = cond (eqb m n) (Some os) None

-- first f, and then g: the later octets of a section count
abbrev pub later_or : Option (List ℕ) → Option (List ℕ) → Option (List ℕ)
later_or o None = o
later_or o (Some os) = Some os

abbrev pub later : NewOctets → NewOctets → NewOctets
later f g n = later_or (f n) (g n)

abbrev pub add_exchange : Placed → Option (List ℕ) → List Exchange → List Exchange
add_exchange p None xs = xs
add_exchange p (Some os) xs = in_house p os ∷ xs

-- of these sections, of which the first has number n, those that have new octets are exchanged
unfoldable pub exchanges : NewOctets → ℕ → List Placed → List Exchange
exchanges f n [] = []
exchanges f n (p ∷ ps) = add_exchange p (f n) (exchanges f (suc n) ps)

-- the file with all sections replaced that have new octets
unfoldable pub replaced_sections : List ℕ → List Placed → NewOctets → List ℕ
unfolding exchanged exchanges
replaced_sections file ps f = exchanged 0 (exchanges f 1 ps) file
