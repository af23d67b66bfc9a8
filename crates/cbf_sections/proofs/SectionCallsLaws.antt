-- A file's section with a number: from what the reader says of it to what the calls answer, and where its octets are.
-- Assumes nothing.
use mathlib.Core.Path.{◌≡◌, refl, sym, ap, ◌∙◌, subst}
use Rattle.std.specs.Prelude.{Option, None, Some, Ok, Err, Result as Answered}
use mathlib.Core.Bool.{Bool, true, false, cond}
use mathlib.Core.List.{List, []}
use Prim.Native.Nat.{ℕ, ◌+◌, ◌-◌, ◌≤◌}
use native.Mathlib.Omega.{arith}
use borrow.Author.Tests.{le-leb}
use lib.Dec.{leb, eqb}
use lib.IntN.{ℤ}
use lib.ListN.{length, take, drop}
use lib.Seq.{slice}
use Rattle.cbf_answers.specs.Limits.{pixel_limit}
use Rattle.cbf_walk.specs.Reading.{Item, Reading, refused, good}
use Rattle.cbf_answers.specs.Answers.{Outcome, gives, refuses, outcome, written}
use Rattle.cbf_pixels.specs.PixelCalls.{is_some, pixels_of, unpack_pixels, unpack_outcome, unpack_output}
use Rattle.cbf_answers.specs.declared.Refusal.{Refusal}
use Rattle.cbf_format.specs.declared.Encoding.{Encoding}
use Rattle.cbf_format.specs.declared.Encoding.TheVariants.{Binary, Base64}
use Rattle.cbf_format.specs.Listing.{Placed, sections, numbered, position}
use Rattle.cbf_format.proofs.OctetLaws.{DataAt, data-at, binary-octets, octet-count, few-elements, whole-elements}
use Rattle.cbf_reader.specs.WholeFile.{count_of, NumberedIs, NumberedSays}
use Rattle.cbf_reader.specs.Walk.{SectionOf}
use Rattle.cbf_format.specs.declared.Section.{Section}
use Rattle.cbf_format.specs.SectionCalls.{read_outcome, Result, refusal, value, or_missing, section_numbered, of_section}
use Rattle.cbf_format.specs.SectionCalls.{section_outcome, numbered_fields, fields_of, section_fields, placed_at, frame_of}
use Rattle.cbf_format.specs.SectionCalls.{frame_for, frame_outcome, frame_pixels, OctetsAnswer, octets_for, octets_in}
use Rattle.cbf_format.specs.SectionCalls.{octets_of, Place, octets_place, octets_outcome, octets_part}
use Rattle.cbf_sections.specs.Frame.{FrameOf}
use Rattle.cbf_format.proofs.Slices.{slice-part}
use Rattle.cbf_letters.proofs.SectionTexts.{text_of}
use Rattle.cbf_format.specs.Sections as S
use Rattle.cbf_format.specs.Files as F

-- ---- how many sections

pub count_outcome : (r : Reading (Item F.State S.Section)) → outcome (count_of r) ≡ read_outcome r
unfolding read_outcome
count_outcome (refused k p) = refl
count_outcome (good its) = refl

-- ---- the section with a number

pub section-fields : (file : List ℕ) (n : ℕ) (r : Reading (Item F.State S.Section)) (s : Answered Section Refusal) → NumberedSays file n r s
    → numbered_fields file s ≡ section_fields r n
unfolding section_fields
section-fields file n (refused k p) s e = ap (numbered_fields file) e
section-fields file n (good its) s e = go (numbered n (sections 0 its)) e
  where
    go : (o : Option Placed) → NumberedIs file o s
        → numbered_fields file s ≡ of_section (or_missing o) (λ p. value (fields_of p))
    go None e = ap (numbered_fields file) e
    go (Some p) (t, e, d) =
        let b = slice t.block.from t.block.to file in
        ap (numbered_fields file) e
        ∙ ap (λ (z : Section). value (record {
          description = z.description;
          boundary = z.from;
          end = z.to;
          first = z.first;
          block = b;
        })) d.fields
        ∙ rw d.block

-- ---- its octets

-- where the octets of the code's section are
abbrev pub place_for : Encoding → ℕ → ℕ → Result Place
place_for Binary first size = value (record { start = first; count = size })
place_for Base64 first size = refusal 18 0

abbrev pub numbered_place : Answered Section Refusal → Result Place
numbered_place (Err r) = refusal r.number r.place
numbered_place (Ok s) = place_for s.description.encoding s.first s.description.size

-- the part of the file at a place
pub record PartAt (file octets : List ℕ) (from to : ℕ) : Type 0 where
  pub low : from ≤ to
  pub high : to ≤ length file
  pub is : slice from to file ≡ octets

-- as the code takes it from the file
pub part-taken : {file octets : List ℕ} {from to : ℕ} → PartAt file octets from to → take (to - from) (drop from file) ≡ octets
part-taken {file} {from} {to} a = sym (slice-part file from to a.low a.high) ∙ a.is

abbrev pub PartFor : List ℕ → List ℕ → Result Place → Type 0
PartFor file octets (refusal k p) = PartAt file octets 0 0
PartFor file octets (value a) = PartAt file octets a.start (a.start + a.count)

-- no part
no_part : (file : List ℕ) → PartAt file [] 0 0
no_part file = record { low = omega arith; high = omega arith; is = refl }

module _ (limit n : ℕ) (file : List ℕ) where
  -- the place that the code's section says
  pub place_in : (s : Answered Section Refusal) → NumberedSays file n (F.read limit file) s
      → numbered_place s ≡ octets_place (octets_of (F.read limit file) n)
  unfolding octets_of
  place_in s h = go (F.read limit file) refl h
    where
      for : (p : Placed) (e : Encoding) → DataAt limit file p
          → place_for e (position p) p.section.description.size ≡ octets_place (octets_for e (position p) p.section.octets)
      for p Binary d = ap (λ (k : ℕ). value (record { start = position p; count = k })) (sym (octet-count d))
      for p Base64 d = refl

      go : (r : Reading (Item F.State S.Section)) → F.read limit file ≡ r → NumberedSays file n r s
          → numbered_place s ≡ octets_place (octets_of r n)
      go (refused k p) e h = ap numbered_place h
      go (good its) e h = by (numbered n (sections 0 its)) refl h
        where
          by : (o : Option Placed) → numbered n (sections 0 its) ≡ o → NumberedIs file o s
              → numbered_place s ≡ octets_place (of_section (or_missing o) octets_in)
          by None q h = ap numbered_place h
          by (Some p) q (t, same, d) =
              ap numbered_place same
              ∙ ap (λ (z : Section). place_for z.description.encoding z.first z.description.size) d.fields
              ∙ for p p.section.description.encoding (data-at limit n file its p e q)

  -- the octets are at their place in the file
  pub part_at : PartFor file (octets_part (octets_of (F.read limit file) n)) (octets_place (octets_of (F.read limit file) n))
  unfolding octets_of
  part_at = go (F.read limit file) refl
    where
      Holds : Result OctetsAnswer → Type 0
      Holds o = PartFor file (octets_part o) (octets_place o)

      for : (p : Placed) (e : Encoding) → p.section.description.encoding ≡ e → DataAt limit file p
          → Holds (octets_for e (position p) p.section.octets)
      for p Binary q d =
          let b = binary-octets d q in
          record {
            low = omega arith;
            high = omega (arith, octet-count d, b.1);
            is = ap (λ (k : ℕ). slice (position p) (position p + k) file) (octet-count d) ∙ sym b.0;
          }
      for p Base64 q d = no_part file

      go : (r : Reading (Item F.State S.Section)) → F.read limit file ≡ r → Holds (octets_of r n)
      go (refused k p) e = no_part file
      go (good its) e = by (numbered n (sections 0 its)) refl
        where
          by : (o : Option Placed) → numbered n (sections 0 its) ≡ o
              → Holds (of_section (or_missing o) octets_in)
          by None q = no_part file
          by (Some p) q = for p p.section.description.encoding refl (data-at limit n file its p e q)

  -- and so are those at the place that was answered
  pub part_there : {first size : ℕ} → value (record { start = first; count = size }) ≡ octets_place (octets_of (F.read limit file) n)
      → PartAt file (octets_part (octets_of (F.read limit file) n)) first (first + size)
  part_there e = subst (PartFor file (octets_part (octets_of (F.read limit file) n))) (sym e) part_at

-- how many octets there are at a place
pub octets_counted : (o : Result OctetsAnswer) (a : Place) → value a ≡ octets_place o → octets_outcome o ≡ gives a.count
octets_counted (refusal k p) a e = absurd cc
octets_counted (value x) a e = let q : a ≡ record { start = x.start; count = length x.octets } = cc in ap (λ (y : Place). gives y.count) (sym q)

pub octets_refused : (o : Result OctetsAnswer) (k p : ℕ) → refusal k p ≡ octets_place o → octets_outcome o ≡ refuses k p
octets_refused (refusal j q) k p e = cc
octets_refused (value x) k p e = absurd cc

pub ruleset octets_said = (octets_counted, octets_refused)

-- ---- its frame

frame : {limit : ℕ} {file : List ℕ} {p : Placed} {s : Section} → DataAt limit file p → SectionOf file p s → FrameOf file p s
frame {p} d h =
    record {
      is = h;
      binary = λ e. let b = binary-octets d e in record { octets = b.0; inside = b.1 };
      base64 = λ e. (p.boundary + p.section.width - 31, text_of d e);
      few = few-elements d;
      whole = whole-elements d;
    }

-- the code's section of an accepted file has the octets of the file's
pub frame-of : (limit n : ℕ) (file : List ℕ) (s : Section) → NumberedSays file n (F.read limit file) (Ok s)
    → (p : Placed) × (section_numbered (F.read limit file) n ≡ value p) × FrameOf file p s
frame-of limit n file s h = go (F.read limit file) refl h
  where
    go : (r : Reading (Item F.State S.Section)) → F.read limit file ≡ r → NumberedSays file n r (Ok s)
        → (p : Placed) × (section_numbered r n ≡ value p) × FrameOf file p s
    go (refused k q) e h = absurd cc
    go (good its) e h = by (numbered n (sections 0 its)) refl h
      where
        by : (o : Option Placed) → numbered n (sections 0 its) ≡ o → NumberedIs file o (Ok s)
            → (p : Placed) × (or_missing o ≡ value p) × FrameOf file p s
        by None q h = absurd cc
        by (Some p) q (t, same, d) =
            let u : t ≡ s = cc in
            (p, refl, frame (data-at limit n file its p e q) (subst (SectionOf file p) u d))

module _ {file : List ℕ} {p : Placed} {s : Section} (f : FrameOf file p s) where
  pub frame-binary : s.description.encoding ≡ Binary → PartAt file p.section.octets s.first (s.first + s.description.size)
  frame-binary =
      subst (λ (z : Section). z.description.encoding ≡ Binary → PartAt file p.section.octets z.first
      (z.first + z.description.size)) (sym f.is.fields)
      (λ e. let b = f.binary e in record { low = omega arith; high = b.inside; is = sym b.octets })

-- ---- what unpacking it answers

-- unpacking of octets as the code's section says
abbrev answer_for : Section → List ℕ → ℕ → Outcome
answer_for s os room = unpack_outcome s.description.compression s.description.kind s.description.elements os room

abbrev output_for : Section → List ℕ → List ℤ → List ℤ
output_for s os old = unpack_output s.description.compression s.description.kind s.description.elements os old

abbrev pixels_for : Section → List ℕ → List ℤ
pixels_for s os = pixels_of (unpack_pixels s.description.compression s.description.kind s.description.elements os)

-- what is answered for a section that is there
pub section-answer : {r : Result Placed} (p : Placed) (f : Placed → Outcome) → r ≡ value p → section_outcome r f ≡ f p
section-answer p f e = ap (λ (x : Result Placed). section_outcome x f) e

-- and where there is none
pub section-refused : (file : List ℕ) (n : ℕ) (r : Reading (Item F.State S.Section)) (t : Refusal) (f : Placed → Outcome)
    → NumberedSays file n r (Err t) → refuses t.number t.place ≡ section_outcome (section_numbered r n) f
section-refused file n (refused k p) t f e = cc
section-refused file n (good its) t f e = go (numbered n (sections 0 its)) e
  where
    go : (o : Option Placed) → NumberedIs file o (Err t) → refuses t.number t.place ≡ section_outcome (or_missing o) f
    go None e = cc
    go (Some p) (s, e, d) = absurd cc

-- placing 13 changes nothing of what is written
written-placed : (first : ℕ) (o : Outcome) (new old : List ℤ) → written (placed_at first o) new old ≡ written o new old
unfolding written
written-placed first (gives n) new old = refl
written-placed first (refuses k p) new old = go (eqb k 13)
  where
    go : (b : Bool) → written (cond b (refuses k first) (refuses k p)) new old ≡ old
    go true = refl
    go false = refl

-- the answer for octets alone, with 13 at the first of them, is the frame's
unpack-placed : (p : Placed) (room : ℕ) → p.section.description.elements ≤ pixel_limit
    → let d = p.section.description in
    placed_at (position p) (unpack_outcome d.compression d.kind d.elements p.section.octets room) ≡ frame_for p room
unfolding unpack_outcome frame_of
unpack-placed p room few =
    let d = p.section.description in
    rw (le-leb n pixel_limit few) (go (is_some (unpack_pixels d.compression d.kind n p.section.octets)) (leb n room))
  where
    n : ℕ
    n = p.section.description.elements

    go : (a b : Bool) → placed_at (position p) (cond a (cond b (gives n) (refuses 15 0)) (refuses 13 0))
        ≡ cond a (cond b (gives n) (refuses 15 0)) (refuses 13 (position p))
    go true true = refl
    go true false = refl
    go false b = refl

-- the outcome of a call, and what is then in the output
abbrev pub FrameSays : Reading (Item F.State S.Section) → ℕ → List ℤ → Outcome → List ℤ → Type 0
FrameSays r n old o new = (o ≡ frame_outcome r n (length old)) × (new ≡ written (frame_outcome r n (length old)) (frame_pixels r n) old)

pub frame_refused : (file : List ℕ) (n : ℕ) (r : Reading (Item F.State S.Section)) (t : Refusal) (old : List ℤ) → NumberedSays file n r (Err t)
    → FrameSays r n old (refuses t.number t.place) old
unfolding frame_outcome written
frame_refused file n r t old h = let e = section-refused file n r t (λ p. frame_for p (length old)) h in (e, rw (← e))

module _ (limit n : ℕ) (file : List ℕ) {p : Placed} {s : Section} (here : section_numbered (F.read limit file) n ≡ value p)
    (f : FrameOf file p s) where
  frame-answer : (room : ℕ) → placed_at s.first (answer_for s p.section.octets room)
      ≡ frame_outcome (F.read limit file) n room
  unfolding frame_outcome
  frame-answer room =
      ap (λ (z : Section). placed_at z.first (answer_for z p.section.octets room)) f.is.fields
      ∙ unpack-placed p room f.few
      ∙ sym (section-answer p (λ q. frame_for q room) here)

  frame-pixels : pixels_for s p.section.octets ≡ frame_pixels (F.read limit file) n
  unfolding frame_pixels frame_of
  frame-pixels =
      ap (λ (z : Section). pixels_for z p.section.octets) f.is.fields ∙ sym (rw here)

  pub frame-says : (old : List ℤ)
      → FrameSays (F.read limit file) n old
      (placed_at s.first (answer_for s p.section.octets (length old)))
      (output_for s p.section.octets old)
  unfolding unpack_output
  frame-says old =
      let a = frame-answer (length old) in
      (a, sym (written-placed s.first (answer_for s p.section.octets (length old)) (pixels_for s p.section.octets) old) ∙ rw (a, frame-pixels))
