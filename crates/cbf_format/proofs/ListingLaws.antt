-- How long a listing is: of each number, of each block name, of the list of sections, and of the whole. Assumes
-- nothing.
use mathlib.Core.Path.{◌≡◌, ap}
use Rattle.std.specs.Prelude.{Option, None, Some}
use mathlib.Core.Bool.{Bool, true, false, cond}
use mathlib.Core.List.{List, [], ◌∷◌, ◌++◌}
use Prim.Native.Nat.{ℕ, zero, suc, ◌+◌, ◌*◌, ◌/◌, ◌%◌, ◌≤◌}
use native.Mathlib.Nat.{mul-le-mul_right}
use native.Mathlib.Omega.{arith}
use lib.Dec.{ltb}
use lib.ListN.{length, take, drop, length-append, length-drop}
use Rattle.cbf_walk.specs.Parsers.{ok}
use Rattle.cbf_walk.specs.Reading.{good, flat}
use Rattle.cbf_walk.proofs.Good.{Good}
use Rattle.cbf_pixels.specs.declared.ElementType.{ElementType}
use Rattle.cbf_pixels.specs.declared.ElementType.TheVariants.{U8, S8, U16, S16, U32, S32}
use Rattle.cbf_pixels.specs.declared.Compression.{Compression}
use Rattle.cbf_pixels.specs.declared.Compression.TheVariants.{Uncompressed, ByteOffset}
use Rattle.cbf_format.specs.Text.{bytes, blank, lowers, same}
use Rattle.cbf_format.specs.Sections.{Section}
use Rattle.cbf_format.specs.Files.{Field, first_line, outside, opened, inside, State, start, due, up_to_blank}
use Rattle.cbf_format.specs.Files.{next_block, step_line, step, Tree, read}
use Rattle.cbf_format.specs.Listing.{Placed, add_placed, sections, position, digits_of, compression_name, type_name}
use Rattle.cbf_format.specs.Listing.{named, section_text, section_line, section_lines, listing}
use Rattle.cbf_format.proofs.LineTame.{text_line-short}
use Rattle.cbf_format.proofs.FileLaws.{passed, took, Took, accepted, few-sections}

-- ---- numbers

pub digits-short : (f n : ℕ) → length (digits_of f n) ≤ f
unfolding digits_of
digits-short zero n = omega arith
digits-short (suc f) n = go (ltb n 10) (digits-short f (n / 10))
  where
    go : (b : Bool) → length (digits_of f (n / 10)) ≤ f
        → length (cond b ((48 + n) ∷ []) (digits_of f (n / 10) ++ ((48 + n % 10) ∷ []))) ≤ suc f
    go true h = omega arith
    go false h = simp length-append (omega arith)

-- ---- block names

up_to_blank-short : (t : List ℕ) → length (up_to_blank t) ≤ length t
up_to_blank-short [] = omega arith
up_to_blank-short (x ∷ t) = go (blank x) (up_to_blank-short t)
  where
    go : (b : Bool) → length (up_to_blank t) ≤ length t → length (cond b [] (x ∷ up_to_blank t)) ≤ suc (length t)
    go true h = omega arith
    go false h = omega arith

next_block-short : (limit : ℕ) (f : Field) (s t block : List ℕ) (n : ℕ) → step_line limit f s ≡ ok t n → length block ≤
    limit → length (next_block f t block) ≤ limit
next_block-short limit first_line s t block n e h = h
next_block-short limit outside s t block n e h = go (same (lowers (take 5 t)) (bytes "data_"))
  where
    go : (b : Bool) → length (cond b (up_to_blank (drop 5 t)) block) ≤ limit
    go true = omega (arith, up_to_blank-short (drop 5 t), length-drop 5 t, text_line-short limit s t n e)
    go false = h
next_block-short limit (opened m) s t block n e h = h
next_block-short limit (inside m) s t block n e h = h

-- each section's block name has at most `limit` characters
unfoldable pub NamesWithin : ℕ → List Placed → Type 0
NamesWithin limit [] = Unit {0}
NamesWithin limit (p ∷ ps) = (length p.section.block ≤ limit) × NamesWithin limit ps

names : (limit at : ℕ) (its : Tree) (st : State) → Good (step limit) due st its → length st.block ≤ limit → NamesWithin limit (sections at its)
unfolding Good sections NamesWithin
names limit at [] st g h = tt
names limit at (it ∷ its) st g h = go it.info it.next g.0 (λ h. names limit (at + length it.bytes) its it.next g.2 h)
  where
    rest : List Placed
    rest = sections (at + length it.bytes) its

    go : (o : Option Section) (t : State) → step limit st (it.bytes ++ flat its) ≡ ok (o, t) (length it.bytes)
        → (length t.block ≤ limit → NamesWithin limit rest) → NamesWithin limit (add_placed at o rest)
    go None t e ih =
        let p = passed limit st t (it.bytes ++ flat its) (length it.bytes) e in
        let b : length t.block ≡ length (next_block st.field p.text st.block) = ap (λ (z : State). length z.block) p.after in
        ih (omega (arith, b, next_block-short limit st.field (it.bytes ++ flat its) p.text st.block (length it.bytes) p.is_line h))
    go (Some i) t e ih = one (took limit st t (it.bytes ++ flat its) i (length it.bytes) e)
      where
        one : Took limit st t (it.bytes ++ flat its) i (length it.bytes) → NamesWithin limit (add_placed at (Some i) rest)
        one k =
            let b : length t.block ≡ length st.block = ap (λ (z : State). length z.block) k.after in
            let c : length i.block ≡ length st.block = ap length k.name in
            (omega (arith, c, h), ih (omega (arith, b, h)))

pub name-short : (limit : ℕ) (file : List ℕ) (its : Tree) → read limit file ≡ good its → NamesWithin limit (sections 0 its)
name-short limit file its e = names limit 0 its start (accepted limit file its e).is_good (omega arith)

-- ---- lines: at most 4 numbers of 20 digits, 11 and 3 letters, 5 spaces, the name with one more, and the line end

compression_name-short : (c : Compression) → length (compression_name c) ≤ 11
compression_name-short Uncompressed = omega arith
compression_name-short ByteOffset = omega arith

type_name-short : (t : ElementType) → length (type_name t) ≤ 3
type_name-short U8 = omega arith
type_name-short S8 = omega arith
type_name-short U16 = omega arith
type_name-short S16 = omega arith
type_name-short U32 = omega arith
type_name-short S32 = omega arith

named-short : (name : List ℕ) → length (named name) ≤ suc (length name)
named-short [] = omega arith
named-short (x ∷ t) = omega arith

pub section_text-short : (number at size elements : ℕ) (c : Compression) (t : ElementType) (name : List ℕ)
    → length (section_text number at size elements c t name) ≤ length name + 101
unfolding section_text
section_text-short number at size elements c t name =
    simp length-append
    (omega (
      arith,
      digits-short 20 number,
      digits-short 20 at,
      digits-short 20 size,
      digits-short 20 elements,
      compression_name-short c,
      type_name-short t,
      named-short name,
    ))

section_lines-short : (limit n : ℕ) (ps : List Placed) → NamesWithin limit ps → length (section_lines n ps) ≤ length ps * (limit + 101)
unfolding section_lines NamesWithin
section_lines-short limit n [] h = omega arith
section_lines-short limit n (p ∷ ps) h =
    let d = p.section.description in
    omega (
      arith,
      length-append (section_line n p) (section_lines (suc n) ps),
      section_text-short n (position p) d.size d.elements d.compression d.kind p.section.block,
      section_lines-short limit (suc n) ps h.1,
      h.0,
    )

pub listing-short : (limit : ℕ) (file : List ℕ) (its : Tree) → read limit file ≡ good its → length (listing (good its)) ≤ 512 * (limit + 101)
unfolding listing
listing-short limit file its e =
    omega (arith, section_lines-short limit 1 (sections 0 its) (name-short limit file its e), mul-le-mul_right (limit + 101) (few-sections limit file its e))
