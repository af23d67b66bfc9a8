-- Room for as many pixels as the file has bytes is always enough for unpacking: 15 is then not answered. Assumes
-- nothing.
use mathlib.Core.Path.{◌≡◌, refl}
use mathlib.Core.Logic.{◌≢◌}
use Rattle.std.specs.Prelude.{Option, None, Some}
use mathlib.Core.Bool.{Bool, true, false, cond}
use mathlib.Core.List.{List, [], ◌∷◌}
use Prim.Native.Nat.{ℕ, suc, ◌+◌, ◌-◌, ◌*◌, ◌≤◌}
use native.Mathlib.Omega.{arith}
use borrow.Author.Tests.{leb-true, le-leb, eqb-true}
use lib.Dec.{leb}
use lib.ListN.{length}
use lib.Seq.{slice, length-slice}
use Rattle.cbf_walk.specs.Reading.{Item, Reading, refused, good}
use Rattle.cbf_pixels.specs.Uncompressed.{octets_per}
use Rattle.cbf_answers.specs.Answers.{gives, refuses}
use Rattle.cbf_pixels.specs.PixelCalls.{is_some}
use Rattle.cbf_pixels.specs.declared.ElementType.{ElementType}
use Rattle.cbf_pixels.specs.declared.ElementType.TheVariants.{U8, S8, U16, S16, U32, S32}
use Rattle.cbf_pixels.specs.declared.Compression.{Compression}
use Rattle.cbf_pixels.specs.declared.Compression.TheVariants.{Uncompressed, ByteOffset}
use Rattle.cbf_format.specs.declared.Symbol.{Symbol}
use Rattle.cbf_format.specs.declared.Symbol.TheVariants.{Letter, Pad, Blank, Other}
use Rattle.cbf_format.specs.declared.Encoding.{Encoding}
use Rattle.cbf_format.specs.declared.Encoding.TheVariants.{Binary, Base64}
use Rattle.cbf_format.specs.Base64.{symbol}
use Rattle.cbf_format.specs.Descriptions.{size_agrees}
use Rattle.cbf_format.specs.Listing.{Placed, sections, numbered, position}
use Rattle.cbf_format.proofs.LineTame.{and-true}
use Rattle.cbf_format.proofs.VerdictLaws.{size-agrees}
use Rattle.cbf_format.proofs.PlaceLaws.{read-place}
use Rattle.cbf_format.proofs.OctetLaws.{DataAt, data-at, binary-octets}
use Rattle.cbf_format.proofs.ReplacementLaws.{SpanAt, span-at}
use Rattle.cbf_letters.specs.Letters.{add_six, sixes, sixes_octets}
use Rattle.cbf_letters.proofs.SectionTexts.{text_of}
use Rattle.cbf_format.specs.SectionCalls.{or_missing, section_numbered, section_outcome, frame_of, frame_for, frame_outcome}
use Rattle.cbf_format.specs.Sections as S
use Rattle.cbf_format.specs.Files as F

-- ---- a section has no more elements than octets

elements-few : (c : Compression) (t : ElementType) (size elements : ℕ) → size_agrees c t size elements ≡ true → elements ≤ size
elements-few ByteOffset t size elements e = leb-true elements size (and-true (leb elements size) (leb size (15 * elements)) e).0
elements-few Uncompressed t size elements e = go t (eqb-true size (elements * octets_per t) e)
  where
    go : (t : ElementType) → size ≡ elements * octets_per t → elements ≤ size
    go U8 q = omega arith
    go S8 q = omega arith
    go U16 q = omega arith
    go S16 q = omega arith
    go U32 q = omega arith
    go S32 q = omega arith

-- ---- nor more octets than the file has bytes

-- a text has at most as many letters as bytes, and its octets are at most two more than its letters
sixes-few : (t : List ℕ) → length (sixes t) ≤ length t
unfolding sixes
sixes-few [] = omega arith
sixes-few (x ∷ t) = go (symbol x) (sixes-few t)
  where
    go : (s : Symbol) → length (sixes t) ≤ length t → length (add_six s (sixes t)) ≤ suc (length t)
    go (Letter n) h = omega arith
    go Pad h = omega arith
    go Blank h = omega arith
    go Other h = omega arith

joined-few : (l : List ℕ) → length (sixes_octets l) ≤ length l + 2
unfolding sixes_octets
joined-few [] = omega arith
joined-few (a ∷ []) = omega arith
joined-few (a ∷ b ∷ []) = omega arith
joined-few (a ∷ b ∷ c ∷ []) = omega arith
joined-few (a ∷ b ∷ c ∷ d ∷ l) = omega (arith, joined-few l)

module _ {limit : ℕ} {file : List ℕ} {p : Placed} (d : DataAt limit file p) (s : SpanAt file p) where
  octets-few : (e : Encoding) → p.section.description.encoding ≡ e → p.section.description.size ≤ length file
  octets-few Binary q = omega (arith, (binary-octets d q).1)
  octets-few Base64 q =
      let t = text_of d q in
      let to = p.boundary + p.section.width - 31 in
      let bytes = slice (position p) to file in
      omega (
        arith,
        t.enough,
        t.end,
        s.inside,
        joined-few (sixes bytes),
        sixes-few bytes,
        length-slice (position p) to file t.inside,
      )

  pub elements-in-file : p.section.description.elements ≤ length file
  elements-in-file =
      let x = p.section.description in
      omega (
        arith,
        elements-few x.compression x.kind x.size x.elements (size-agrees d.described.0 x d.described.1),
        octets-few x.encoding refl,
      )

-- ---- the law

never : (k p : ℕ) → k ≢ 15 → refuses k p ≢ refuses 15 0
never k p h e = let q : k ≡ 15 = cc in h q

pub enough-room : (limit : ℕ) (file : List ℕ) (n room : ℕ) → length file ≤ room
    → frame_outcome (F.read limit file) n room ≢ refuses 15 0
unfolding frame_outcome
enough-room limit file n room h = go (F.read limit file) refl
  where
    for : (k at : ℕ) → k ≤ room → (a : Bool)
        → cond a (cond (leb k room) (gives k) (refuses 15 0)) (refuses 13 at) ≢ refuses 15 0
    for k at few true e =
        let g : gives k ≡ refuses 15 0 = rw (le-leb k room few) at e in
        let z : ◌≡◌ {A = ℕ} 0 1 = cc in absurd (omega arith)
    for k at few false e = never 13 at (λ z. omega arith) e

    go : (r : Reading (Item F.State S.Section)) → F.read limit file ≡ r
        → section_outcome (section_numbered r n) (λ p. frame_for p room) ≢ refuses 15 0
    go (refused k p) q e = never k p (λ z. omega (arith, (read-place limit file k p q).1)) e
    go (good its) q e = by (numbered n (sections 0 its)) refl e
      where
        by : (o : Option Placed) → numbered n (sections 0 its) ≡ o
            → section_outcome (or_missing o) (λ p. frame_for p room) ≢ refuses 15 0
        by None w e = never 12 0 (λ z. omega arith) e
        by (Some p) w e =
            let few = elements-in-file (data-at limit n file its p q w) (span-at limit n file its p q w) in
            for p.section.description.elements (position p) (omega (arith, few)) (is_some (frame_of p)) e
