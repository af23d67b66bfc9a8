-- A binary section, from its boundary line on. Document 01, "The octets and their end".
use Rattle.std.specs.Prelude.{Option, None, Some}
use Rattle.std.specs.Prelude.{List, [], ◌∷◌, ℕ, ◌+◌, length, drop}
use Rattle.cbf_walk.specs.Parsers.{Res, bad, cut, ok, Parser, ret, plus, bind, counted, screen, blame}
use Rattle.cbf_format.specs.declared.Encoding.{Encoding}
use Rattle.cbf_format.specs.declared.Encoding.TheVariants.{Binary, Base64}
use Rattle.cbf_format.specs.Text.{bytes}
use Rattle.cbf_format.specs.Lines.{line_end, exactly, literal, semicolon_line}
use Rattle.cbf_format.specs.declared.Description.{Description}
use Rattle.cbf_format.specs.Descriptions.{headers}
use Rattle.cbf_format.specs.Base64.{Letters, letters, decode, sized}
use Rattle.cbf_answers.specs.Limits.{file_limit}

abbrev pub opening : List ℕ
opening = bytes "--CIF-BINARY-FORMAT-SECTION--"

abbrev pub closing : List ℕ
closing = bytes "--CIF-BINARY-FORMAT-SECTION----"

abbrev pub marker : List ℕ
marker = 0x0c ∷ 0x1a ∷ 0x04 ∷ 0xd5 ∷ []

-- What follows the empty line: the octets, how many bytes stand before the first of them, and how many bytes there
-- are up to the last hyphen of the closing boundary, where the span ends. (Document 01's term: the span of a section
-- is from the opening boundary's first hyphen to the closing boundary's last.)
pub record Data : Type 0 where
  pub octets : List ℕ
  pub lead : ℕ
  pub width : ℕ

-- ---- BINARY: "0C 1A 04 D5, then exactly the declared octets, a line end, the line .., then `;` with at most 79
-- blanks"

-- the bytes of the line end and the closing boundary
unfoldable pub last_boundary : Parser (List ℕ)
last_boundary = bind line_end (λ e. literal closing)

-- what follows the span
unfoldable pub after_span : ℕ → Parser (List ℕ)
after_span limit = bind line_end (λ e. semicolon_line limit)

unfoldable pub closed : ℕ → Parser ℕ
closed limit = bind (λ s. counted (last_boundary s)) (λ wn. bind (after_span limit) (λ e. ret wn.1))

-- "These closing lines are judged by 9 alone, place the byte after the declared octets"
abbrev pub closed_after : ℕ → ℕ → List ℕ → Parser Data
closed_after limit size os = bind (λ s. blame 9 (closed limit s)) (λ n. ret (record { octets = os; lead = 4; width = 4 + size + n }))

unfoldable pub binary_data : ℕ → ℕ → Parser Data
binary_data limit size = bind (λ s. blame 8 (literal marker s)) (λ m. bind (exactly size) (closed_after limit size))

-- ---- BASE64: "text lines until that closing line; then the same `;` line, judged by 9 alone, at the closing line"

abbrev pub good_text : ℕ → Letters → Option (ℕ × ℕ)
good_text size l = refused_unless (sized size (decode l.symbols)) l.closing
  where
    refused_unless : Option (List ℕ) → ℕ → Option (ℕ × ℕ)
    refused_unless None at = Some (10, at)
    refused_unless (Some os) at = None

abbrev pub decoded : Option (List ℕ) → List ℕ
decoded None = []
decoded (Some os) = os

-- every refusal is k, at a place p of the bytes that were begun with
abbrev pub blame_at : {A : Type 0} → ℕ → ℕ → Res A → Res A
blame_at k p (bad j q) = bad k p
blame_at k p cut = bad k p
blame_at k p (ok a n) = ok a n

abbrev pub text_closed : ℕ → Res Letters → List ℕ → Res Data
text_closed limit (bad k p) s = bad k p
text_closed limit cut s = cut
text_closed limit (ok l n) s =
    blame_at 9 l.closing
    (plus n (bind (semicolon_line limit) (λ e. ret (record {
      octets = decoded (decode l.symbols);
      lead = 0;
      width =
          l.closing + length closing;
    })) (drop n s)))

unfoldable pub base64_data : ℕ → ℕ → Parser Data
base64_data limit size s = text_closed limit (screen (good_text size) (letters limit closing file_limit 0 s)) s

abbrev pub data_for : ℕ → Encoding → ℕ → Parser Data
data_for limit Binary size = binary_data limit size
data_for limit Base64 size = base64_data limit size

-- ---- the section

pub record Section : Type 0 where
  pub description : Description
  pub octets : List ℕ
  -- from the boundary line's first byte: the first octet (BASE64: the byte after the empty line), and the span's end
  pub first : ℕ
  pub width : ℕ
  pub block : List ℕ

-- the section whose boundary line took n bytes, in a data block
abbrev pub section_of : List ℕ → ℕ → (Description × ℕ) → Data → Section
section_of block n dm d =
    record {
      description = dm.0;
      octets = d.octets;
      first = n + dm.1 + d.lead;
      width = n + dm.1 + d.width;
      block = block;
    }

unfoldable pub section : ℕ → List ℕ → ℕ → Parser Section
section limit block n =
    bind (λ s. counted (headers limit file_limit s))
    (λ dm. bind (data_for limit dm.0.encoding dm.0.size) (λ d. ret (section_of block n dm d)))
