-- Room for as many bytes as the file has, 1,000 more and 15 for each pixel is always enough for replacing: 15 is then
-- answered only for a new file over the file limit. Assumes nothing.
use mathlib.Core.Path.{◌≡◌, refl}
use Rattle.std.specs.Prelude.{Option, None, Some}
use mathlib.Core.Bool.{Bool, true, false, cond}
use mathlib.Core.List.{List, ◌++◌}
use Prim.Native.Nat.{ℕ, ◌+◌, ◌*◌, ◌≤◌, ◌<◌}
use native.Mathlib.Omega.{arith}
use borrow.Author.Tests.{le-leb, leb-false}
use lib.Dec.{leb}
use lib.IntN.{ℤ}
use lib.ListN.{length, take, drop, length-append, length-drop}
use lib.Seq.{length-take-le}
use Rattle.cbf_walk.specs.Reading.{Item, Reading, refused, good}
use Rattle.cbf_walk.specs.Exchange.{exchanged}
use Rattle.cbf_pixels.specs.Pixels.{pack_byte_offset}
use Rattle.cbf_answers.specs.Answers.{Outcome, gives, refuses}
use Rattle.cbf_answers.specs.Limits.{file_limit}
use Rattle.cbf_pixels.proofs.Bounds.{packed-bounds}
use Rattle.cbf_format.specs.declared.Encoding.{Encoding}
use Rattle.cbf_format.specs.declared.Encoding.TheVariants.{Binary, Base64}
use Rattle.cbf_format.specs.declared.Description.{Description}
use Rattle.cbf_format.specs.Sections.{Section}
use Rattle.cbf_format.specs.Files.{State, read}
use Rattle.cbf_format.specs.Listing.{Placed, sections, numbered}
use Rattle.cbf_format.specs.House.{house, replaced_file}
use Rattle.cbf_format.proofs.PlaceLaws.{read-place}
use Rattle.cbf_format.proofs.ReplacementLaws.{SpanAt, span-at}
use Rattle.cbf_format.specs.SectionCalls.{or_missing, section_numbered, section_outcome}
use Rattle.cbf_answers.specs.Rooms.{room_for}
use Rattle.cbf_format.specs.ReplaceCalls.{frame_fits, room_for_file, replace_fitting, replace_for, replace_outcome}
use Rattle.cbf_format.specs.ReplaceCalls.{new_file, replaced_by}
use Rattle.cbf_house.proofs.SpanLaws.{house-short}

-- ---- how long the new file is at most

file-short : (file : List ℕ) (p : Placed) (frame : List ℤ) → SpanAt file p
    → length (replaced_file file p (pack_byte_offset frame)) ≤ length file + 1000 + 15 * length frame
unfolding replaced_file exchanged
file-short file p frame s =
    let new = house p.section.description (pack_byte_offset frame) in
    let behind = drop (p.boundary + p.section.width) file in
    omega (
      arith,
      length-append (take p.boundary file) (new ++ behind),
      length-append new behind,
      length-take-le p.boundary file (omega (arith, s.inside)),
      length-drop (p.boundary + p.section.width) file,
      s.inside,
      house-short p.section.description (pack_byte_offset frame),
      (packed-bounds frame).1,
    )

-- ---- the law

-- 15 is answered of a new file only where it is over the limit
abbrev Enough : List ℕ → Outcome → Type 0
Enough new o = o ≡ refuses 15 0 → file_limit < length new

another : (new : List ℕ) (k p : ℕ) → (k ≡ 15 → ⊥) → Enough new (refuses k p)
another new k p h e = let q : k ≡ 15 = cc in absurd (h q)

module _ (new : List ℕ) (room : ℕ) (fits : length new ≤ room) where
  tested : (b : Bool) (x : Outcome) (k : ℕ) → (k ≡ 15 → ⊥) → Enough new x → Enough new (cond b x (refuses k 0))
  tested true x k h f = f
  tested false x k h f = another new k 0 h

  file-enough : Enough new (room_for_file new room)
  unfolding room_for_file room_for
  file-enough = go (leb (length new) file_limit) refl
    where
      go : (b : Bool) → leb (length new) file_limit ≡ b
          → Enough new (cond b (cond (leb (length new) room) (gives (length new)) (refuses 15 0)) (refuses 15 0))
      go true q e =
          let g : gives (length new) ≡ refuses 15 0 = rw (le-leb (length new) room fits) at e in
          let z : ◌≡◌ {A = ℕ} 0 1 = cc in absurd (omega arith)
      go false q e = leb-false (length new) file_limit q

  answer-enough : (c : Encoding) (d : Description) (frame : List ℤ) → Enough new (replace_for c d frame new room)
  unfolding replace_fitting
  answer-enough Binary d frame = tested (frame_fits d frame) _ 14 (λ z. omega arith) file-enough
  answer-enough Base64 d frame = another new 18 0 (λ z. omega arith)

pub enough-room : (limit : ℕ) (file : List ℕ) (n : ℕ) (frame : List ℤ) (room : ℕ)
    → length file + 1000 + 15 * length frame ≤ room
    → replace_outcome file (read limit file) n frame room ≡ refuses 15 0
    → file_limit < length (replaced_by file (read limit file) n frame)
unfolding replace_outcome replaced_by
enough-room limit file n frame room h = go (read limit file) refl
  where
    go : (r : Reading (Item State Section)) → read limit file ≡ r
        → Enough (replaced_by file r n frame) (replace_outcome file r n frame room)
    go (refused k p) q =
        another (new_file file (section_numbered (refused k p) n) frame) k p
        (λ z. omega (arith, (read-place limit file k p q).1))
    go (good its) q = by (numbered n (sections 0 its)) refl
      where
        by : (o : Option Placed) → numbered n (sections 0 its) ≡ o
            → Enough (new_file file (or_missing o) frame) (section_outcome (or_missing o) (λ p.
            let d = p.section.description in
            replace_for d.encoding d frame (replaced_file file p (pack_byte_offset frame)) room))
        by None w = another (new_file file (or_missing None) frame) 12 0 (λ z. omega arith)
        by (Some p) w =
            let new = replaced_file file p (pack_byte_offset frame) in
            let fits = file-short file p frame (span-at limit n file its p q w) in
            let d = p.section.description in
            answer-enough new room (omega (arith, fits)) d.encoding d frame
