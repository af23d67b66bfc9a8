-- The lines of the sections that a walk over a file came past: their length, where they are written, and the room for
-- the next one. Assumes nothing.
use mathlib.Core.Path.{◌≡◌, refl, sym, ap, ◌∙◌}
use Rattle.std.specs.Prelude.{Option, None, Some, Result, Ok, Err}
use mathlib.Core.Bool.{Bool, true, false}
use mathlib.Core.List.{List, [], ◌∷◌, ◌++◌, append_assoc, append-nil}
use Prim.Native.Nat.{ℕ, suc, ◌+◌, ◌*◌, ◌≤◌, ◌<◌}
use native.Mathlib.Omega.{arith}
use lib.ListN.{length, length-append}
use lib.Seq.{slice, length-slice}
use Rattle.cbf_walk.specs.Reading.{Item, Reading, refused, good}
use Rattle.cbf_answers.specs.declared.Refusal.{Refusal}
use Rattle.cbf_answers.specs.Limits.{file_limit}
use Rattle.cbf_format.specs.Listing.{Placed, sections, section_text, section_line, section_lines, position, listing}
use Rattle.cbf_format.proofs.ListingLaws.{section_text-short}
use Rattle.cbf_reader.specs.Walk.{whole, start_cursor, ReadTo, SectionOf, NextSays}
use Rattle.cbf_reader.specs.declared.step.Cursor.{Cursor}
use Rattle.cbf_format.specs.declared.Section.{Section}
use Rattle.cbf_reader.specs.declared.walk.NextSection.{NextSection}
use Rattle.cbf_reader.proofs.LoopLaws.{LoopAt, loop-start, LoopMore, AllRead, loop-count, loop-front}
use Rattle.cbf_reader.proofs.LoopLaws.{loop-refused, loop-end, loop-more, refused-off}
use Rattle.cbf_listing.specs.SectionLine.{line_for}
use Rattle.cbf_listing.specs.Lines.{lines_of, lines_in, Fits}
use Rattle.cbf_write.proofs.PutLaws.{Put, put_if, put-if-length, put-if-none, put-if-off, put-if-more}
use Rattle.cbf_format.specs.Sections as S
use Rattle.cbf_format.specs.Files as F

-- ---- lines

-- the lines of some sections, and of the sections after them
lines-append : (n : ℕ) (a b : List Placed) → section_lines n (a ++ b) ≡ section_lines n a ++ section_lines (n + length a) b
unfolding section_lines
lines-append n [] b = let e : n ≡ n + 0 = omega arith in ap (λ (m : ℕ). section_lines m b) e
lines-append n (p ∷ a) b =
    let e : suc n + length a ≡ n + suc (length a) = omega arith in
    ap (λ (t : List ℕ). section_line n p ++ t) (lines-append (suc n) a b ∙ ap (λ (m : ℕ). section_lines (suc n) a ++ section_lines m b) e)
    ∙ sym (append_assoc (section_line n p) (section_lines (suc n) a) (section_lines (n + suc (length a)) b))

-- one section more
lines-last : (n : ℕ) (a : List Placed) (p : Placed) → section_lines n (a ++ (p ∷ [])) ≡ section_lines n a ++ section_line (n + length a) p
unfolding section_lines
lines-last n a p = lines-append n a (p ∷ []) ∙ ap (λ (t : List ℕ). section_lines n a ++ t) (append-nil (section_line (n + length a) p))

-- the listing of the first sections is no longer than the whole one
listing-front : (a its : F.Tree) (rest : List Placed) → sections 0 its ≡ sections 0 a ++ rest → length (listing (good a)) ≤ length (listing (good its))
unfolding listing
listing-front a its rest e =
    let l = sections 0 a in
    omega (
      arith,
      ap length (ap (section_lines 1) e ∙ lines-append 1 l rest),
      length-append (section_lines 1 l) (section_lines (1 + length l) rest),
    )

-- the line of a section of the code
module _ {file : List ℕ} {p : Placed} {s : Section} (is : SectionOf file p s) (n : ℕ) where
  line-is : line_for file n s ≡ section_line n p
  line-is =
      let d = p.section.description in
      ap (line_for file n) is.fields ∙ ap (section_text n (position p) d.size d.elements d.compression d.kind) is.block

  line-short : length file ≤ file_limit → length (line_for file n s) ≤ 2147483648
  line-short h =
      let d = s.description in
      let name = slice s.block.from s.block.to file in
      omega (
        arith,
        section_text-short n s.first d.size d.elements d.compression d.kind name,
        length-slice s.block.from s.block.to file is.block_high,
        is.block_high,
      )

-- ---- the output

-- what the contract says of it
lines-in : (w : Bool) (r : Reading (Item F.State S.Section)) (old : List ℕ) → put_if w old 0 (listing r) ≡ lines_in w r old
lines-in true r old = refl
lines-in false r old = refl

-- what is answered for a reading of the file, and what is then in the output
abbrev Answered : Reading (Item F.State S.Section) → Bool → List ℕ → Result ℕ Refusal → List ℕ → Type 0
Answered r writing old m out = (m ≡ lines_of r) × (out ≡ lines_in writing r old)

-- ---- the loop

-- the lines of the sections before the cursor end at the place, and are in the output where they are written
pub record Listed (limit : ℕ) (file old : List ℕ) (writing : Bool) (c : Cursor) (at : ℕ) (out : List ℕ) : Type 0 where
  pub here : LoopAt limit file c
  pub length_is : at ≡ length (listing (good here.done))
  pub bound : at ≤ c.count * 2147483648
  pub holds : out ≡ put_if writing old 0 (listing (good here.done))

pub listed_start : (limit : ℕ) (file old : List ℕ) (writing : Bool) (c : Cursor) → c ≡ start_cursor
    → length file ≤ file_limit → Listed limit file old writing c 0 old
unfolding sections section_lines listing
listed_start limit file old writing c e h = record {
  here = loop-start limit file c e h;
  length_is = refl;
  bound = omega arith;
  holds = put-if-none writing old 0;
}

module _ {limit : ℕ} {file old : List ℕ} {writing : Bool} {c : Cursor} {at : ℕ} {out : List ℕ} (k : Listed limit file old writing c at out) where
  abbrev done : F.Tree
  done = k.here.done

  pub listed_kept : length out ≡ length old
  listed_kept = ap length k.holds ∙ put-if-length writing old 0 (listing (good done))

  ended : AllRead k.here → Answered (whole limit file) writing old (Ok at) out
  unfolding listing
  ended all =
      let e : listing (good done) ≡ listing (good all.0) = ap (section_lines 1) (sym all.2) in
      rw all.1 (ap Ok (k.length_is ∙ ap length e), k.holds ∙ ap (put_if writing old 0) e ∙ lines-in writing (good all.0) old)

  -- what reading on from the cursor gave
  module _ {r : Result (Option NextSection) Refusal} (says : (done : F.Tree) → ReadTo limit file done c → NextSays limit file done r) where
    -- nothing was written of a refused file
    pub listed-refused : {q : Refusal} → (writing ≡ true → Fits (whole limit file) old) → r ≡ Err q
        → Answered (whole limit file) writing old (Err q) out
    listed-refused {q} fits is =
        let e = loop-refused k.here says is in
        let off = refused-off writing (λ on. ((fits on).0, (fits on).1)) e in
        let r = refused q.number q.place in
        rw e (refl, k.holds ∙ put-if-off writing old 0 (listing (good done)) (listing r) off ∙ lines-in writing r old)

    pub listed-end : r ≡ Ok None → Answered (whole limit file) writing old (Ok at) out
    listed-end is = ended (loop-end k.here says is)

    -- a section more
    module _ {n : NextSection} (is : r ≡ Ok (Some n)) where
      abbrev s : Section
      s = n.section

      abbrev d : Cursor
      d = n.after

      abbrev found : LoopMore k.here s d
      found = loop-more k.here says is

      pub listed-block : (s.block.from ≤ s.block.to) × (s.block.to ≤ length file) × (length file ≤ file_limit)
      listed-block = (found.is_section.block_low, found.is_section.block_high, k.here.come.ready.short)

      abbrev line : List ℕ
      line = line_for file d.count s

      abbrev then : F.Tree
      then = found.here.done

      line-more : listing (good then) ≡ listing (good done) ++ line
      unfolding listing
      line-more =
          let l = sections 0 done in
          let p = found.placed in
          let n : 1 + length l ≡ d.count = omega (arith, found.count_more) in
          ap (section_lines 1) found.sections_more ∙ lines-last 1 l p ∙ ap (λ (n : ℕ). section_lines 1 l ++ section_line n p) n
          ∙ ap (λ (t : List ℕ). section_lines 1 l ++ t) (sym (line-is found.is_section d.count))

      length_more : at + length line ≡ length (listing (good then))
      length_more = omega (arith, k.length_is, ap length line-more, length-append (listing (good done)) line)

      -- its line has room in an output that has room for the file's
      pub listed-room : (writing ≡ true → Fits (whole limit file) old) → writing ≡ true → at + length line ≤ length out
      listed-room fits on =
          let f = fits on in
          let b = loop-front found.here f.0 f.1 in
          omega (arith, length_more, listing-front then f.0 b.0 b.1, f.2, listed_kept)

      listed-on : {n : ℕ} {new : List ℕ} → n ≡ at + length line → new ≡ put_if writing old 0 (listing (good then)) → Listed limit file old writing d n new
      listed-on e h = record {
        here = found.here;
        length_is = e ∙ length_more;
        bound = omega (arith, e, k.bound, loop-count k.here, found.count_more, line-short found.is_section d.count k.here.come.ready.short);
        holds = h;
      }

      -- the line was written, or measured
      pub listed-written : {n : ℕ} {new : List ℕ} → writing ≡ true → Put out at line n new → Listed limit file old writing d n new
      listed-written on p =
          listed-on p.0 (put-if-more writing old 0 (listing (good done)) line on k.holds
          (omega (arith, k.length_is)) p.1 ∙ ap (put_if writing old 0) (sym line-more))

      pub listed-measured : {n : ℕ} → writing ≡ false → n ≡ length line → Listed limit file old writing d (at + n) out
      listed-measured off e = listed-on (ap (λ (n : ℕ). at + n) e) (k.holds ∙ put-if-off writing old 0 (listing (good done)) (listing (good then)) off)
