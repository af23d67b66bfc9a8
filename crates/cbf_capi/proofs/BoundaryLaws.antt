-- What the calls answer fits the fields of the structs that C gets; and from the calls' contracts to those of the
-- functions for C. Assumes nothing.
use Prim.Native.Nat.{ℕ, ◌+◌, ◌-◌, ◌^◌, ◌<◌, ◌≤◌}
use native.Mathlib.Omega.{arith}
use mathlib.Core.Path.{◌≡◌, refl, sym, ap, ap₂, subst, ◌∙◌}
use mathlib.Core.List.{List}
use Rattle.std.specs.Prelude.{Option, None, Some, Ok, Err, Result as Answered}
use mathlib.Core.Bool.{Bool, true, false, cond}
use lib.Dec.{leb}
use lib.ListN.{length}
use lib.Seq.{slice, length-slice}
use lib.IntN.{ℤ}
use borrow.Author.Tests.{leb-true}
use Rattle.cbf_pixels.specs.declared.ElementType.{ElementType}
use Rattle.cbf_pixels.specs.declared.Compression.{Compression}
use Rattle.cbf_pixels.specs.Pixels.{least, greatest, all_within, pack_byte_offset}
use Rattle.cbf_answers.specs.Answers.{Outcome, gives, refuses, written}
use Rattle.cbf_pixels.proofs.Bounds.{packed-limit}
use Rattle.cbf_pixels.specs.PixelCalls.{is_some, pack_outcome, pack_output, unpack_pixels, unpack_outcome, unpack_output}
use Rattle.cbf_answers.specs.Limits.{pixel_limit, file_limit}
use Rattle.cbf_walk.specs.Reading.{Item, Reading, good}
use Rattle.cbf_format.specs.declared.Encoding.{Encoding}
use Rattle.cbf_format.specs.declared.Encoding.TheVariants.{Binary, Base64}
use Rattle.cbf_format.specs.Sections.{Section}
use Rattle.cbf_format.specs.Files.{State, Tree, read}
use Rattle.cbf_format.specs.Listing.{Placed, sections, numbered, position, listing}
use Rattle.cbf_format.specs.Catalogue.{catalogue, long_name}
use Rattle.cbf_format.proofs.FileLaws.{accepted, few-sections}
use Rattle.cbf_format.proofs.PlaceLaws.{read-limit, long-name-place}
use Rattle.cbf_format.proofs.ListingLaws.{listing-short}
use Rattle.cbf_format.proofs.OctetLaws.{DataAt, data-at, position_in, span-in, binary-octets, octet-count}
use Rattle.cbf_format.proofs.OctetLaws.{bounded, few-elements}
use Rattle.cbf_format.specs.SectionCalls.{Result, refusal, value, or_missing, section_numbered, of_section}
use Rattle.cbf_format.specs.SectionCalls.{section_outcome, read_outcome, OctetsAnswer, octets_for, octets_of, Place}
use Rattle.cbf_format.specs.SectionCalls.{octets_place, octets_outcome, frame_of, frame_outcome, Fields, fields_of}
use Rattle.cbf_format.specs.SectionCalls.{section_fields, numbered_fields, NameInside}
use Rattle.cbf_answers.specs.declared.Refusal.{Refusal}
use Rattle.cbf_capi.specs.declared.MelAnswer.{MelAnswer}
use Rattle.cbf_capi.specs.declared.MelOctetsAnswer.{MelOctetsAnswer}
use Rattle.cbf_capi.specs.declared.MelSectionAnswer.{MelSectionAnswer}
use Rattle.cbf_answers.specs.Rooms.{room_for}
use Rattle.cbf_format.specs.House.{replaced_file}
use Rattle.cbf_format.specs.ReplaceCalls.{frame_fits, room_for_file, replace_fitting, replace_for, replace_outcome}
use Rattle.cbf_format.specs.ListCalls.{list_outcome}
use Rattle.cbf_format.specs.CatalogueCalls.{catalogued_or, catalogue_outcome}
use Rattle.cbf_catalogue.proofs.WriteCatalogueLaws.{catalogue-short}
use Rattle.cbf_capi.specs.Boundary.{pack_call, unpack_call, unpacked_by, returned, returned_octets, returned_section}
use Rattle.cbf_capi.specs.Boundary.{section_returned, section_refused, block_name, value_of, Narrow, NarrowSection}
use Rattle.cbf_walk.specs.Reading as R
use Rattle.cbf_format.specs.declared.Section as D

-- the place of a refusal, or the length, is a number of 32 bits
abbrev Fits : Outcome → Type 0
Fits o = value_of o < 2 ^ 32

-- one answer where the test holds, else another
picked : (b : Bool) (x y : Outcome) → Fits y → (b ≡ true → Fits x) → Fits (cond b x y)
picked true x y h f = f refl
picked false x y h f = h

-- a length where the test holds, else a refusal
tested : (b : Bool) (x : Outcome) (number : ℕ) → (b ≡ true → Fits x) → Fits (cond b x (refuses number 0))
tested b x number f = picked b x (refuses number 0) (omega arith) f

given : (n limit : ℕ) → limit < 2 ^ 32 → leb n limit ≡ true → Fits (gives n)
given n limit h e = omega (arith, leb-true n limit e)

-- a text that is short, where there is room for it
roomed : (text : List ℕ) (room : ℕ) → length text < 2 ^ 32 → Fits (room_for text room)
unfolding room_for
roomed text room h = go (leb (length text) room)
  where
    go : (b : Bool) → Fits (cond b (gives (length text)) (refuses 15 0))
    go true = h
    go false = omega arith

pub pack-fits : (t : ElementType) (ps : List ℤ) (room : ℕ) → Fits (pack_outcome t ps room)
unfolding pack_outcome
pack-fits t ps room =
    tested (leb (length ps) pixel_limit) _ 14 (λ a.
    tested (all_within (least t) (greatest t) ps) _ 14 (λ b.
    roomed (pack_byte_offset ps) room (omega (arith, packed-limit ps (leb-true (length ps) pixel_limit a)))))

pub unpack-fits : (c : Compression) (t : ElementType) (n : ℕ) (os : List ℕ) (room : ℕ) → Fits (unpack_outcome c t n os room)
unfolding unpack_outcome
unpack-fits c t n os room =
    tested (leb n pixel_limit) _ 13 (λ a.
    tested (is_some (unpack_pixels c t n os)) _ 13 (λ b.
    tested (leb n room) _ 15 (λ d.
    given n pixel_limit (omega arith) a)))

-- the refusals of reading have places of the file
unread : (limit : ℕ) (file : List ℕ) (k p : ℕ) → read limit file ≡ R.refused k p → Fits (refuses k p)
unread limit file k p e = omega (arith, read-limit limit file k p e)

pub list-fits : (limit : ℕ) (file : List ℕ) (room : ℕ) → limit ≤ 2048 → Fits (list_outcome (read limit file) room)
unfolding list_outcome
list-fits limit file room h = go (read limit file) refl
  where
    go : (r : Reading (Item State Section)) → read limit file ≡ r → Fits (list_outcome r room)
    go (R.refused k p) e = unread limit file k p e
    go (good its) e = roomed (listing (good its)) room (omega (arith, h, listing-short limit file its e))

pub catalogue-fits : (limit : ℕ) (file : List ℕ) (room : ℕ) → Fits (catalogue_outcome (read limit file) room)
unfolding catalogue_outcome
catalogue-fits limit file room = go (read limit file) refl
  where
    named : (its : Tree) → read limit file ≡ good its → (o : Option ℕ) → long_name (sections 0 its) ≡ o
        → Fits (catalogued_or o (catalogue (sections 0 its)) room)
    named its e None q = roomed (catalogue (sections 0 its)) room (omega (arith, catalogue-short limit file its e q))
    named its e (Some p) q =
        omega (arith, long-name-place limit file its p e q, (accepted limit file its e).not_long)

    go : (r : Reading (Item State Section)) → read limit file ≡ r → Fits (catalogue_outcome r room)
    go (R.refused k p) e = unread limit file k p e
    go (good its) e = named its e (long_name (sections 0 its)) refl

pub count_fits : (limit : ℕ) (file : List ℕ) → Fits (read_outcome (read limit file))
unfolding read_outcome
count_fits limit file = go (read limit file) refl
  where
    go : (r : Reading (Item State Section)) → read limit file ≡ r → Fits (read_outcome r)
    go (R.refused k p) e = unread limit file k p e
    go (good its) e = omega (arith, few-sections limit file its e)

-- what is answered for a section: reading's refusal, 12, or what holds of each section of the file
section-fits : (limit : ℕ) (file : List ℕ) (n : ℕ) (f : Placed → Outcome)
    → ((p : Placed) → DataAt limit file p → length file ≤ file_limit → Fits (f p))
    → Fits (section_outcome (section_numbered (read limit file) n) f)
section-fits limit file n f each = go (read limit file) refl
  where
    go : (r : Reading (Item State Section)) → read limit file ≡ r → Fits (section_outcome (section_numbered r n) f)
    go (R.refused k p) e = unread limit file k p e
    go (good its) e = by (numbered n (sections 0 its)) refl
      where
        by : (o : Option Placed) → numbered n (sections 0 its) ≡ o → Fits (section_outcome (or_missing o) f)
        by None q = omega arith
        by (Some p) q = each p (data-at limit n file its p e q) (accepted limit file its e).not_long

-- the number of octets, as an answer for the section
octets-answer : (r : Result Placed) (f : Placed → Result OctetsAnswer)
    → section_outcome r (λ p. octets_outcome (f p)) ≡ octets_outcome (of_section r f)
octets-answer (refusal k p) f = refl
octets-answer (value p) f = refl

octets-fits : (limit : ℕ) (file : List ℕ) (n : ℕ) → Fits (octets_outcome (octets_of (read limit file) n))
unfolding octets_of
octets-fits limit file n =
    subst Fits (octets-answer (section_numbered (read limit file) n) _)
    (section-fits limit file n _ (λ p d l. go p d l p.section.description.encoding refl))
  where
    go : (p : Placed) → DataAt limit file p → length file ≤ file_limit → (e : Encoding)
        → p.section.description.encoding ≡ e → Fits (octets_outcome (octets_for e (position p) p.section.octets))
    go p d l Binary q = omega (arith, octet-count d, (binary-octets d q).1)
    go p d l Base64 q = omega arith

pub frame-fits : (limit : ℕ) (file : List ℕ) (n room : ℕ) → Fits (frame_outcome (read limit file) n room)
unfolding frame_outcome
frame-fits limit file n room =
    section-fits limit file n _ (λ p d l.
    picked (is_some (frame_of p)) _ _ (omega (arith, position_in d)) (λ a.
    tested (leb p.section.description.elements room) _ 15 (λ b.
    omega (arith, few-elements d))))

pub replace-fits : (limit : ℕ) (file : List ℕ) (n : ℕ) (frame : List ℤ) (room : ℕ) → Fits (replace_outcome file (read limit file) n frame room)
unfolding replace_outcome replace_fitting room_for_file
replace-fits limit file n frame room = section-fits limit file n _ (λ p d l. go p p.section.description.encoding)
  where
    go : (p : Placed) (e : Encoding) → Fits (replace_for e p.section.description frame (replaced_file file p (pack_byte_offset frame)) room)
    go p Binary =
        let new = replaced_file file p (pack_byte_offset frame) in
        tested (frame_fits p.section.description frame) _ 14 (λ a.
        tested (leb (length new) file_limit) _ 15 (λ b.
        roomed new room (omega (arith, leb-true (length new) file_limit b))))
    go p Base64 = omega arith

-- ---- where the octets of a section are

-- as they are returned
abbrev pub place_returned : Result Place → MelOctetsAnswer
place_returned (refusal k p) = record { refusal = k; place = p; item = 0; length = 0; start = 0 }
place_returned (value a) = record { refusal = 0; place = 0; item = 0; length = a.count; start = a.start }

place-returned : (o : Result OctetsAnswer) → place_returned (octets_place o) ≡ returned_octets o
place-returned (refusal k p) = refl
place-returned (value o) = refl

-- how many octets there are, as an answer
abbrev pub place_outcome : Result Place → Outcome
place_outcome (refusal k p) = refuses k p
place_outcome (value a) = gives a.count

place-outcome : (o : Result OctetsAnswer) → place_outcome (octets_place o) ≡ octets_outcome o
place-outcome (refusal k p) = refl
place-outcome (value o) = refl

-- the place that the code answers, and what the call then answers
module _ (limit : ℕ) (file : List ℕ) (n : ℕ) {x : Result Place} (is : x ≡ octets_place (octets_of (read limit file) n)) where
  pub place-fits : Fits (place_outcome x)
  place-fits =
      rw (ap place_outcome is ∙ place-outcome (octets_of (read limit file) n)) (octets-fits limit file n)

  pub octets-say : place_returned x ≡ returned_octets (octets_of (read limit file) n)
  octets-say = ap place_returned is ∙ place-returned (octets_of (read limit file) n)

-- ---- the fields of a section

-- what is known of the fields that a call answers
abbrev FieldsFit : List ℕ → Result Fields → Type 0
FieldsFit file (refusal k p) = p < 2 ^ 32
FieldsFit file (value f) = Narrow f.description f.boundary f.end f.first × (length file < 2 ^ 32)

narrow : {limit : ℕ} {file : List ℕ} {p : Placed} → DataAt limit file p → length file ≤ file_limit
    → Narrow p.section.description p.boundary (p.boundary + p.section.width) (position p)
narrow d l =
    let k = bounded d in
    record {
      boundary_fits = omega (arith, span-in d);
      end_fits = omega (arith, span-in d);
      first_fits = omega (arith, position_in d);
      size_fits = omega (arith, k.size_in);
      elements_fit = omega (arith, k.few);
      id_fits = omega (arith, k.id_in);
      fastest_fits = omega (arith, k.fastest_in);
      second_fits = omega (arith, k.second_in);
      third_fits = omega (arith, k.third_in);
    }

fields_fit : (limit : ℕ) (file : List ℕ) (n : ℕ) → FieldsFit file (section_fields (read limit file) n)
unfolding section_fields
fields_fit limit file n = go (read limit file) refl
  where
    go : (r : Reading (Item State Section)) → read limit file ≡ r
        → FieldsFit file (of_section (section_numbered r n) (λ p. value (fields_of p)))
    go (R.refused k p) e = unread limit file k p e
    go (good its) e = by (numbered n (sections 0 its)) refl
      where
        by : (o : Option Placed) → numbered n (sections 0 its) ≡ o
            → FieldsFit file (of_section (or_missing o) (λ p. value (fields_of p)))
        by None q = omega arith
        by (Some p) q =
            let l = (accepted limit file its e).not_long in
            (narrow (data-at limit n file its p e q) l, omega (arith, l))

-- the section that the code answers, and what the call then answers
module _ (limit : ℕ) (file : List ℕ) (n : ℕ) (x : Answered D.Section Refusal) (is : numbered_fields file x ≡ section_fields (read limit file) n)
    (inside : NameInside file x) where
  fit : FieldsFit file (numbered_fields file x)
  fit = subst (FieldsFit file) (sym is) (fields_fit limit file n)

  unfoldable pub SectionSays : MelSectionAnswer → Type 0
  SectionSays r =
      (r ≡ returned_section r.name_start (section_fields (read limit file) n))
      × ((slice r.name_start (r.name_start + r.name_length) file
      ≡ block_name (section_fields (read limit file) n))
      × (r.name_start + r.name_length ≤ length file))

  -- there is none
  module _ (t : Refusal) (same : x ≡ Err t) where
    pub refused-fits : t.place < 2 ^ 32
    refused-fits = subst (λ (z : Answered D.Section Refusal). FieldsFit file (numbered_fields file z)) same fit

    pub refused_says : {r : MelSectionAnswer} → r ≡ section_refused t.number t.place → SectionSays r
    unfolding SectionSays
    refused_says e =
        let q : refusal t.number t.place ≡ section_fields (read limit file) n = sym (ap (numbered_fields file) same) ∙ is in
        rw (e, ← q) (refl, (refl, omega arith))

  -- it is the code's
  module _ (s : D.Section) (same : x ≡ Ok s) where
    in-file : (s.block.from ≤ s.block.to) × (s.block.to ≤ length file)
    in-file = subst (NameInside file) same inside

    pub narrow-section : NarrowSection s
    narrow-section =
        let f = subst (λ (z : Answered D.Section Refusal). FieldsFit file (numbered_fields file z)) same fit in
        record { numbers = f.0; name_low = in-file.0; name_high = omega (arith, f.1, in-file.1) }

    pub section-says : {r : MelSectionAnswer}
        → r ≡ section_returned s.description s.from s.to s.first s.block.from (s.block.to - s.block.from)
        → SectionSays r
    unfolding SectionSays
    section-says e =
        let q : numbered_fields file (Ok s) ≡ section_fields (read limit file) n = sym (ap (numbered_fields file) same) ∙ is in
        let m : s.block.from + (s.block.to - s.block.from) ≡ s.block.to = omega (arith, in-file.0) in
        let l : length (slice s.block.from s.block.to file) ≡ s.block.to - s.block.from
        = length-slice s.block.from s.block.to file in-file.1 in
        rw (e, ← q, m, l) (refl, (refl, in-file.1))

-- ---- what the calls answer, for the numbers of a type and of a compression

module _ (e : Option ElementType) (ps : List ℤ) (out : List ℕ) where
  unfoldable pub PackSays : MelAnswer → List ℕ → Type 0
  PackSays r out' = (r ≡ returned (pack_call e ps (length out))) × (out' ≡ written (pack_call e ps (length out)) (pack_byte_offset ps) out)

  pub pack-unknown : (r : MelAnswer) → r ≡ returned (refuses 14 0) → None ≡ e → PackSays r out
  unfolding PackSays pack_call written
  pack-unknown r w q = (
    w ∙ ap (λ (x : Option ElementType). returned (pack_call x ps (length out))) q,
    ap (λ (x : Option ElementType). written
        (pack_call x ps (length out)) (pack_byte_offset ps) out) q,
  )

  pub pack-known : (t : ElementType) → Some t ≡ e → (r : MelAnswer) (o : Outcome) (out' : List ℕ) → r ≡ returned o → o
      ≡ pack_outcome t ps (length out) → out' ≡ pack_output t ps out → PackSays r out'
  unfolding PackSays pack_call pack_output
  pack-known t q r o out' w a b = (
    w ∙ ap returned a ∙ ap (λ (x : Option ElementType). returned (pack_call x ps (length out))) q,
    b
        ∙ ap (λ (x : Option ElementType). written (pack_call x ps (length out)) (pack_byte_offset ps) out) q,
  )

module _ (e : Option ElementType) (c : Option Compression) (n : ℕ) (os : List ℕ) (out : List ℤ) where
  unfoldable pub UnpackSays : MelAnswer → List ℤ → Type 0
  UnpackSays r out' = (r ≡ returned (unpack_call e c n os (length out))) × (out' ≡ written (unpack_call e c n os (length out)) (unpacked_by e c n os) out)

  unpack-refused : (r : MelAnswer) → r ≡ returned (refuses 13 0) → refuses 13 0 ≡ unpack_call e c n os (length out) → UnpackSays r out
  unfolding UnpackSays written
  unpack-refused r w q = (w ∙ ap returned q, ap (λ (o : Outcome). written o (unpacked_by e c n os) out) q)

  pub unpack-no-type : (r : MelAnswer) → r ≡ returned (refuses 13 0) → None ≡ e → UnpackSays r out
  unfolding unpack_call
  unpack-no-type r w q = unpack-refused r w (ap (λ (x : Option ElementType). unpack_call x c n os (length out)) q)

  pub unpack-no-compression : (r : MelAnswer) → r ≡ returned (refuses 13 0) → (t : ElementType) → Some t ≡ e → None ≡ c → UnpackSays r out
  unfolding unpack_call
  unpack-no-compression r w t q u = unpack-refused r w (ap₂ (λ (x : Option ElementType) (y : Option Compression). unpack_call x y n os (length out)) q u)

  pub unpack-known : (t : ElementType) (k : Compression) → Some t ≡ e → Some k ≡ c → (r : MelAnswer) (o : Outcome)
      (out' : List ℤ) → r ≡ returned o → o ≡ unpack_outcome k t n os (length out) → out' ≡ unpack_output k t n os out
      → UnpackSays r out'
  unfolding UnpackSays unpack_call unpacked_by unpack_output
  unpack-known t k q u r o out' w a b = (
    w ∙ ap returned a ∙ ap₂ (λ (x : Option ElementType) (y : Option Compression). returned (unpack_call x y n os (length out))) q u,
    b
        ∙ ap₂ (λ (x : Option ElementType) (y : Option Compression). written (unpack_call x y n os (length out)) (unpacked_by x y n os)
        out) q u,
  )
