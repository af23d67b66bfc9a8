-- Pieces written one after the other, the pieces of a section's head, and their lengths. Assumes nothing.
use mathlib.Core.Path.{◌≡◌, refl, ap, ◌∙◌, sym}
use Rattle.std.specs.Prelude.{Option, None, Some}
use mathlib.Core.List.{List, [], ◌∷◌, ◌++◌, append_assoc, append-nil}
use Prim.Native.Nat.{ℕ, zero, suc, ◌+◌, ◌≤◌, ◌<◌}
use native.Mathlib.Omega.{arith}
use lib.ListN.{length, length-append, drop, get_or}
use lib.Seq.{length-sets, sets, drop-cons}
use Rattle.std.proofs.lemmas.List.{drop_all}
use Rattle.cbf_pixels.specs.declared.ElementType.{ElementType}
use Rattle.cbf_pixels.specs.declared.ElementType.TheVariants.{U8, S8, U16, S16, U32, S32}
use Rattle.cbf_format.specs.Text.{bytes}
use Rattle.cbf_format.specs.declared.Description.{Description}
use Rattle.cbf_format.specs.Descriptions.{optional}
use Rattle.cbf_format.specs.Sections.{opening, marker}
use Rattle.cbf_format.specs.Listing.{printed}
use Rattle.cbf_format.proofs.ListingLaws.{digits-short}
use Rattle.cbf_format.specs.Values.{type_words}
use Rattle.cbf_format.specs.House.{ended, ended_lines, number_line, house_lines}
use Rattle.cbf_write.proofs.PutLaws.{Put, put_both}
use Rattle.cbf_house.specs.Head.{head_text, line_text, text_of, texts_of}
use Rattle.cbf_house.specs.declared.head.Piece.{Piece}
use Rattle.cbf_house.specs.declared.head.Piece.TheVariants.{Text}
use native.Mathlib.Numerals.{add-one}

-- ---- a text, written part by part

-- of a text that fits into old from at on, all but its end rest is written: r is the place after it
pub record Written (old : List ℕ) (at : ℕ) (text rest : List ℕ) (r : ℕ) (new : List ℕ) : Type 0 where
  pub done : List ℕ
  pub whole : text ≡ done ++ rest
  pub put : Put old at done r new
  pub fits : at + length text ≤ length old

module _ {old : List ℕ} {at : ℕ} {text : List ℕ} where
  pub written_none : at + length text ≤ length old → Written old at text text at old
  written_none h = record { done = []; whole = refl; put = (omega arith, refl); fits = h }

  module _ {r : ℕ} {new rest : List ℕ} (w : Written old at text rest r new) where
    pub written-length : length new ≡ length old
    written-length = ap length w.put.1 ∙ length-sets old at w.done

    pub written_all : rest ≡ [] → Put old at text r new
    written_all e = rw (w.whole, e, append-nil w.done) w.put

    -- the next part
    module _ (p ps : List ℕ) (e : rest ≡ p ++ ps) where
      pub next_fits : r + length p ≤ length new
      next_fits =
          omega (arith, w.fits, w.put.0, ap length w.whole, length-append w.done rest, ap length e, length-append p ps, written-length)

      pub written-more : {s : ℕ} {out : List ℕ} → s ≡ r + length p → out ≡ sets new r p → Written old at text ps s out
      written-more n o =
          record {
            done = w.done ++ p;
            whole = w.whole ∙ ap (λ (l : List ℕ). w.done ++ l) e ∙ sym (append_assoc w.done p ps);
            put = put_both old at w.done p w.put (n, o);
            fits = w.fits;
          }

-- ---- a line with a number

pub optional-none : (n : ℕ) → n ≡ 0 → optional n ≡ None
optional-none n e = rw e refl

module _ (name : List ℕ) where
  pub no_line : line_text name None ≡ []
  unfolding ended_lines
  no_line = refl

  pub line-parts : (n : ℕ) → line_text name (Some n) ≡ name ++ (printed n ++ (13 ∷ 10 ∷ []))
  unfolding ended_lines
  line-parts n = append-nil (ended (name ++ printed n)) ∙ append_assoc name (printed n) (13 ∷ 10 ∷ [])

  pub line-length : (n : ℕ) → length (line_text name (Some n)) ≡ length name + length (printed n) + 2
  line-length n = omega (arith, ap length (line-parts n), length-append name (printed n ++ (13 ∷ 10 ∷ [])), length-append (printed n) (13 ∷ 10 ∷ []))

  -- a line before others, and what follows them
  line_first : (o : Option ℕ) (ls : List (List ℕ)) (z : List ℕ) → ended_lines (number_line name o ls) ++ z ≡ line_text name o ++ (ended_lines ls ++ z)
  unfolding ended_lines
  line_first None ls z = refl
  line_first (Some n) ls z = append_assoc (ended (name ++ printed n)) (ended_lines ls) z ∙ ap (λ (l : List ℕ). l
      ++ (ended_lines ls ++ z)) (sym (append-nil (ended (name ++ printed n))))

-- ---- the pieces of the head

abbrev joined : List (List ℕ) → List ℕ
joined [] = []
joined (p ∷ ps) = p ++ joined ps

abbrev lengths : List (List ℕ) → ℕ
lengths [] = 0
lengths (p ∷ ps) = length p + lengths ps

joined_length : (ps : List (List ℕ)) → length (joined ps) ≡ lengths ps
joined_length [] = refl
joined_length (p ∷ ps) = omega (arith, length-append p (joined ps), joined_length ps)

-- the texts of the pieces that are left, with one of them first
pub texts-more : (ps : List Piece) (k : ℕ) (d : Piece) → k < length ps
    → texts_of (drop k ps) ≡ text_of (get_or ps k d) ++ texts_of (drop (k + 1) ps)
unfolding texts_of
texts-more ps k d h = rw (add-one, drop-cons ps k d) refl

-- what a list of pieces has past its end
abbrev pub no_piece : Piece
no_piece = Text (record { ref_ptr = (0, 0); now = [] })

pub texts-length : (ps : List Piece) (k : ℕ) → k < length ps
    → length (texts_of (drop k ps)) ≡ length (text_of (get_or ps k no_piece)) + length (texts_of (drop (k + 1) ps))
texts-length ps k h =
    ap length (texts-more ps k no_piece h) ∙ length-append (text_of (get_or ps k no_piece)) (texts_of (drop (k + 1) ps))

pub texts-none : (ps : List Piece) (k : ℕ) → length ps ≤ k → texts_of (drop k ps) ≡ []
unfolding texts_of
texts-none ps k h = ap texts_of (drop_all k ps h)

-- a text and three lines before others, and what follows them
four-first : (o k l m : List ℕ) (ls : List (List ℕ)) (z : List ℕ)
    → ended o ++ (ended_lines (k ∷ l ∷ m ∷ ls) ++ z)
    ≡ o ++ (13 ∷ 10 ∷ ((ended k ++ (ended l ++ ended m)) ++ (ended_lines ls ++ z)))
unfolding ended_lines
four-first o k l m ls z = simp append_assoc

-- a line of three texts and another one before others
type-first : (a t c b : List ℕ) (ls : List (List ℕ)) (z : List ℕ)
    → ended_lines ((a ++ (t ++ c)) ∷ b ∷ ls) ++ z ≡ a ++ (t ++ ((ended c ++ ended b) ++ (ended_lines ls ++ z)))
unfolding ended_lines
type-first a t c b ls z = simp append_assoc

-- the texts that are the same in every head
record Texts : Type 0 where
  boundary : List ℕ
  content : List ℕ
  conversions : List ℕ
  encoding : List ℕ
  size_name : List ℕ
  id_name : List ℕ
  type_start : List ℕ
  type_end : List ℕ
  order : List ℕ
  elements_name : List ℕ
  fastest_name : List ℕ
  second_name : List ℕ
  third_name : List ℕ
  end : List ℕ

abbrev texts : Texts
texts =
    record {
      boundary = opening;
      content = bytes "Content-Type: application/octet-stream;";
      conversions = bytes "     conversions=\"x-CBF_BYTE_OFFSET\"";
      encoding = bytes "Content-Transfer-Encoding: BINARY";
      size_name = bytes "X-Binary-Size: ";
      id_name = bytes "X-Binary-ID: ";
      type_start = bytes "X-Binary-Element-Type: \"";
      type_end = bytes "\"";
      order = bytes "X-Binary-Element-Byte-Order: LITTLE_ENDIAN";
      elements_name = bytes "X-Binary-Number-of-Elements: ";
      fastest_name = bytes "X-Binary-Size-Fastest-Dimension: ";
      second_name = bytes "X-Binary-Size-Second-Dimension: ";
      third_name = bytes "X-Binary-Size-Third-Dimension: ";
      end = 13 ∷ 10 ∷ marker;
    }

-- for any texts, so that none is computed
module _ (s : Texts) (t : List ℕ) (size elements : ℕ) (i p q r : Option ℕ) where
  abbrev start : List ℕ
  start = 13 ∷ 10 ∷ (ended s.content ++ (ended s.conversions ++ ended s.encoding))

  abbrev after-type : List ℕ
  after-type = ended s.type_end ++ ended s.order

  abbrev pieces : List (List ℕ)
  pieces =
      s.boundary
      ∷ start ∷ line_text s.size_name (Some size) ∷ line_text s.id_name i ∷ s.type_start ∷ t ∷ after-type ∷
      line_text s.elements_name (Some elements) ∷ line_text s.fastest_name p ∷ line_text s.second_name q
      ∷ line_text s.third_name r
      ∷ s.end
      ∷ []

  text-pieces :
      ended s.boundary
      ++ (ended_lines
      (s.content ∷ s.conversions ∷ s.encoding
      ∷ number_line s.size_name (Some size)
      (number_line s.id_name i
      ((s.type_start ++ (t ++ s.type_end)) ∷ s.order ∷ number_line s.elements_name (Some elements)
      (number_line s.fastest_name p (number_line s.second_name q (number_line s.third_name r []))))))
      ++ s.end)
      ≡ joined pieces
  unfolding ended_lines
  text-pieces =
      let l3 = number_line s.second_name q (number_line s.third_name r []) in
      let l2 = number_line s.fastest_name p l3 in
      let l1 = number_line s.elements_name (Some elements) l2 in
      let l0 = (s.type_start ++ (t ++ s.type_end)) ∷ s.order ∷ l1 in
      four-first s.boundary s.content s.conversions s.encoding (number_line s.size_name (Some size) (number_line s.id_name i l0)) s.end
      ∙ ap (λ (w : List ℕ). s.boundary ++ (start ++ w))
      (line_first s.size_name (Some size) (number_line s.id_name i l0) s.end
      ∙ ap (λ (w : List ℕ). line_text s.size_name (Some size) ++ w)
      (line_first s.id_name i l0 s.end
      ∙ ap (λ (w : List ℕ). line_text s.id_name i ++ w)
      (type-first s.type_start t s.type_end s.order l1 s.end
      ∙ ap (λ (w : List ℕ). s.type_start ++ (t ++ (after-type ++ w)))
      (line_first s.elements_name (Some elements) l2 s.end
      ∙ ap (λ (w : List ℕ). line_text s.elements_name (Some elements) ++ w)
      (line_first s.fastest_name p l3 s.end
      ∙ ap (λ (w : List ℕ). line_text s.fastest_name p ++ w)
      (line_first s.second_name q (number_line s.third_name r []) s.end
      ∙ ap (λ (w : List ℕ). line_text s.second_name q ++ (line_text s.third_name r ++ w))
      (sym (append-nil s.end))))))))

  pieces-length :
      length (joined pieces)
      ≡ length s.boundary + length start + length s.size_name + length s.type_start + length after-type
      + length s.elements_name + length s.end + 4 + length t + length (printed size) + length (printed elements)
      + length (line_text s.id_name i)
      + length (line_text s.fastest_name p)
      + length (line_text s.second_name q)
      + length (line_text s.third_name r)
  pieces-length = omega (arith, joined_length pieces, line-length s.size_name size, line-length s.elements_name elements)

module _ (d : Description) (size : ℕ) where
  abbrev pub head_pieces : List (List ℕ)
  head_pieces =
      pieces texts (type_words d.kind) size d.elements (optional d.id) (optional d.fastest) (optional d.second)
      (optional d.third)

  pub head-pieces : head_text d size ≡ joined head_pieces
  unfolding head_text house_lines
  head-pieces =
      text-pieces texts (type_words d.kind) size d.elements (optional d.id) (optional d.fastest) (optional d.second)
      (optional d.third)

  -- 270 bytes are the same in every head
  pub head-length :
      length (head_text d size)
      ≡ 270 + length (type_words d.kind) + length (printed size) + length (printed d.elements)
      + length (line_text texts.id_name (optional d.id))
      + length (line_text texts.fastest_name (optional d.fastest))
      + length (line_text texts.second_name (optional d.second))
      + length (line_text texts.third_name (optional d.third))
  head-length =
      ap length head-pieces
      ∙ pieces-length texts (type_words d.kind) size d.elements (optional d.id) (optional d.fastest) (optional d.second)
      (optional d.third)

pub type-short : (t : ElementType) → length (type_words t) ≤ 23
type-short U8 = omega arith
type-short S8 = omega arith
type-short U16 = omega arith
type-short S16 = omega arith
type-short U32 = omega arith
type-short S32 = omega arith

-- ---- how long a head is at most

line-short : (name : List ℕ) (n : Option ℕ) → length (line_text name n) ≤ length name + 22
line-short name None = omega (arith, ap length (no_line name))
line-short name (Some n) = omega (arith, line-length name n, digits-short 20 n)

pub head-short : (d : Description) (size : ℕ) → length (head_text d size) ≤ 533
head-short d size =
    omega (
      arith,
      head-length d size,
      type-short d.kind,
      digits-short 20 size,
      digits-short 20 d.elements,
      line-short (bytes "X-Binary-ID: ") (optional d.id),
      line-short (bytes "X-Binary-Size-Fastest-Dimension: ") (optional d.fastest),
      line-short (bytes "X-Binary-Size-Second-Dimension: ") (optional d.second),
      line-short (bytes "X-Binary-Size-Third-Dimension: ") (optional d.third),
    )
