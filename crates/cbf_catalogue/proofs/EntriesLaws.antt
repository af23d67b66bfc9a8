-- The entries of the sections that a walk over a file came past: their length, the first name that is too long, and
-- where they are written. Assumes nothing.
use mathlib.Core.Path.{◌≡◌, refl, sym, ap, ◌∙◌, subst}
use Rattle.std.specs.Prelude.{Option, None, Some}
use mathlib.Core.Bool.{Bool, true, false, cond}
use mathlib.Core.List.{List, [], ◌∷◌, ◌++◌, append_assoc, append-nil}
use Prim.Native.Nat.{ℕ, suc, ◌+◌, ◌*◌, ◌-◌, ◌≤◌, ◌<◌}
use native.Mathlib.Omega.{arith}
use Rattle.std.specs.Prelude.{Result, Ok, Err}
use borrow.Author.Tests.{leb-true, le-leb}
use lib.Dec.{leb}
use lib.ListN.{length, length-append}
use lib.Seq.{sets, length-slice}
use Rattle.cbf_walk.specs.Reading.{Item, Reading, good, flat}
use Rattle.cbf_walk.proofs.ReadingLaws.{flat_append}
use Rattle.cbf_answers.specs.declared.Refusal.{Refusal}
use Rattle.cbf_answers.specs.Limits.{file_limit}
use Rattle.cbf_format.specs.Listing.{Placed, sections}
use Rattle.cbf_format.specs.Catalogue.{label_width, entry_of, entries, long_name}
use Rattle.cbf_reader.specs.Walk.{whole, start_cursor, ReadTo, SectionOf, NextSays}
use Rattle.cbf_reader.specs.declared.step.Cursor.{Cursor}
use Rattle.cbf_format.specs.declared.Section.{Section}
use Rattle.cbf_reader.specs.declared.walk.NextSection.{NextSection}
use Rattle.cbf_reader.proofs.LoopLaws.{LoopAt, loop-start, LoopMore, AllRead, loop-count, loop-front}
use Rattle.cbf_reader.proofs.LoopLaws.{loop-refused, loop-end, loop-more, refused-off}
use Rattle.cbf_catalogue.specs.Entry.{entry_for}
use Rattle.cbf_catalogue.specs.Entries.{with_name, finished_by, entries_of, entries_in, EntriesFit}
use Rattle.cbf_write.proofs.PutLaws.{put_if, put-if-length, put-if-none, put-if-off, put-if-more}
use Rattle.cbf_catalogue.proofs.EntryLaws.{length-entry}
use Rattle.cbf_format.specs.Sections as S
use Rattle.cbf_format.specs.Files as F

-- ---- entries

-- one section more
entries-last : (a : List Placed) (p : Placed) → entries (a ++ (p ∷ [])) ≡ entries a ++ entry_of p
unfolding entries
entries-last [] p = append-nil (entry_of p)
entries-last (q ∷ a) p = ap (λ (t : List ℕ). entry_of q ++ t) (entries-last a p) ∙ sym (append_assoc (entry_of q) (entries a) (entry_of p))

-- ---- names that are too long

-- the name of the section's block has room in the label
abbrev Labelled : Placed → Type 0
Labelled p = length p.section.block ≤ label_width

-- none is too long: not the first one, and none after it
name-first : (p : Placed) (ps : List Placed) → long_name (p ∷ ps) ≡ None → Labelled p × (long_name ps ≡ None)
unfolding long_name
name-first p ps = go (leb (length p.section.block) label_width) refl
  where
    go : (t : Bool) → leb (length p.section.block) label_width ≡ t → cond t (long_name ps) (Some p.boundary) ≡ None → Labelled p × (long_name ps ≡ None)
    go true q e = (leb-true (length p.section.block) label_width q, e)
    go false q e = let z : ◌≡◌ {A = ℕ} 0 1 = cc in absurd (omega arith)

names-both : (a b : List Placed) → long_name (a ++ b) ≡ None → (long_name a ≡ None) × (long_name b ≡ None)
unfolding long_name
names-both [] b e = (refl, e)
names-both (p ∷ a) b e =
    let f = name-first p (a ++ b) e in
    let g = names-both a b f.1 in
    (rw (le-leb (length p.section.block) label_width f.0) g.0, g.1)

pub length-entries : (ps : List Placed) → long_name ps ≡ None → length (entries ps) ≡ 64 * length ps
unfolding entries
length-entries [] e = refl
length-entries (p ∷ ps) e =
    let f = name-first p ps e in
    let h : Labelled p = f.0 in
    let l : length (entry_of p) ≡ 64 = rw length-entry in
    omega (arith, length-append (entry_of p) (entries ps), l, length-entries ps f.1)

-- the first long name with the section p more
found-last : (a : List Placed) (p : Placed) → long_name (a ++ (p ∷ [])) ≡ with_name (long_name a) (length p.section.block) p.boundary
unfolding long_name
found-last [] p = refl
found-last (q ∷ a) p = go (leb (length q.section.block) label_width) (found-last a p)
  where
    go : (t : Bool) → long_name (a ++ (p ∷ [])) ≡ with_name (long_name a) (length p.section.block) p.boundary
        → cond t (long_name (a ++ (p ∷ []))) (Some q.boundary) ≡ with_name (cond t (long_name a) (Some q.boundary)) (length p.section.block) p.boundary
    go true ih = ih
    go false ih = refl

-- the entry, the name's length and the boundary line of a section of the code
module _ {file : List ℕ} {p : Placed} {s : Section} (is : SectionOf file p s) where
  entry-is : entry_for file s ≡ entry_of p
  entry-is = ap (entry_for file) is.fields ∙ rw is.block

  name-length : s.block.to - s.block.from ≡ length p.section.block
  name-length = sym (length-slice s.block.from s.block.to file is.block_high) ∙ ap length is.block

  boundary-is : s.from ≡ p.boundary
  boundary-is = ap (λ (t : Section). t.from) is.fields

-- ---- the output

-- what the contract says of it
entries-in : (w : Bool) (its : F.Tree) (old : List ℕ) → put_if w old 8 (entries (sections 0 its)) ≡ entries_in w (good its) old
entries-in true its old = refl
entries-in false its old = refl

-- what is answered for a reading of the file, and what is then in the output
abbrev Answered : Reading (Item F.State S.Section) → Bool → List ℕ → Result ℕ Refusal → List ℕ → Type 0
Answered r writing old m out = (m ≡ entries_of r) × (out ≡ entries_in writing r old)

-- ---- the loop

-- the first long name among the sections before the cursor is known, and their entries are in the output where they
-- are written
pub record Entered (limit : ℕ) (file old : List ℕ) (writing : Bool) (c : Cursor) (found : Option ℕ) (out : List ℕ) : Type 0 where
  pub here : LoopAt limit file c
  pub found_is : found ≡ long_name (sections 0 here.done)
  pub holds : out ≡ put_if writing old 8 (entries (sections 0 here.done))

pub entered-start : (limit : ℕ) (file old : List ℕ) (writing : Bool) (c : Cursor) → c ≡ start_cursor → length file ≤ file_limit
    → Entered limit file old writing c None old
unfolding sections entries long_name
entered-start limit file old writing c e h = record { here = loop-start limit file c e h; found_is = refl; holds = put-if-none writing old 8 }

module _ {limit : ℕ} {file old : List ℕ} {writing : Bool} {c : Cursor} {found : Option ℕ} {out : List ℕ} (k : Entered limit file old writing c found out) where
  abbrev before : List Placed
  before = sections 0 k.here.done

  pub entered-kept : length out ≡ length old
  entered-kept = ap length k.holds ∙ put-if-length writing old 8 (entries before)

  ended : {r : Result ℕ Refusal} → r ≡ finished_by found c.count → AllRead k.here → Answered (whole limit file) writing old r out
  ended e all =
      rw all.1 (
        e ∙ ap (λ (f : Option ℕ). finished_by f c.count) k.found_is ∙ ap (finished_by (long_name before)) (loop-count k.here)
            ∙ ap (λ (ps : List Placed). finished_by (long_name ps) (length ps)) (sym all.2),
        k.holds ∙ ap (λ (ps : List Placed). put_if writing old 8 (entries ps)) (sym all.2) ∙ entries-in writing all.0 old,
      )

  -- what reading on from the cursor gave
  module _ {r : Result (Option NextSection) Refusal} (says : (done : F.Tree) → ReadTo limit file done c → NextSays limit file done r) where
    -- nothing was written of a refused file
    pub entered-refused : {q : Refusal} → (writing ≡ true → EntriesFit (whole limit file) old) → r ≡ Err q
        → Answered (whole limit file) writing old (Err q) out
    entered-refused fits is =
        let e = loop-refused k.here says is in
        let off = refused-off writing (λ on. ((fits on).0, (fits on).1)) e in
        rw e (refl, k.holds ∙ put-if-off writing old 8 (entries before) [] off ∙ sym (put-if-none writing old 8))

    pub entered-end : {a : Result ℕ Refusal} → a ≡ finished_by found c.count → r ≡ Ok None → Answered (whole limit file) writing old a out
    entered-end e is = ended e (loop-end k.here says is)

    -- a section more
    module _ {n : NextSection} (is : r ≡ Ok (Some n)) where
      abbrev s : Section
      s = n.section

      abbrev d : Cursor
      d = n.after

      abbrev more : LoopMore k.here s d
      more = loop-more k.here says is

      pub entered-block : s.block.from ≤ s.block.to
      entered-block = more.is_section.block_low

      -- where its entry is written, no name so far is too long, nor with its own, and the file has so many sections
      fitting : (f : EntriesFit (whole limit file) old)
          → (long_name before ≡ None)
          × (long_name (before ++ (more.placed ∷ [])) ≡ None)
          × Labelled more.placed
          × (suc (length before) ≤ length (sections 0 f.0))
      fitting f =
          let p = more.placed in
          let b = loop-front more.here f.0 f.1 in
          let e : sections 0 f.0 ≡ (before ++ (p ∷ [])) ++ b.0 = b.1 ∙ ap (λ (ps : List Placed). ps ++ b.0) more.sections_more in
          let n = names-both (before ++ (p ∷ [])) b.0 (ap long_name (sym e) ∙ f.2) in
          let m = names-both before (p ∷ []) n.0 in (
            m.0,
            n.0,
            (name-first p [] m.1).0,
            omega (arith, ap length e, length-append (before ++ (p ∷ [])) b.0, length-append before (p ∷ [])),
          )

      -- its entry has room in an output that has room for the file's, and its name in the label
      pub entered-room : (writing ≡ true → EntriesFit (whole limit file) old) → writing ≡ true
          → (s.block.from ≤ s.block.to)
          × (s.block.to ≤ length file)
          × (s.block.to - s.block.from ≤ label_width)
          × (8 + 64 * c.count + 64 ≤ length out)
      entered-room fits on =
          let g = fitting (fits on) in
          let i = more.is_section in (
            i.block_low,
            i.block_high,
            omega (arith, name-length i, g.2),
            omega (arith, g.3, (fits on).3, loop-count k.here, entered-kept),
          )

      -- the entry was written
      pub entered-written : {new : List ℕ} → (writing ≡ true → EntriesFit (whole limit file) old) → writing ≡ true
          → new ≡ sets out (8 + 64 * c.count) (entry_for file s)
          → Entered limit file old writing d found new
      entered-written fits on h =
          let p = more.placed in
          let g = fitting (fits on) in
          let at : 8 + 64 * c.count ≡ 8 + length (entries before) = omega (arith, length-entries before g.0, loop-count k.here) in
          let with-entry : entries before ++ entry_for file s ≡ entries (sections 0 more.here.done) =
          ap (λ (t : List ℕ). entries before ++ t) (entry-is more.is_section) ∙ sym (entries-last before p) ∙ ap entries (sym more.sections_more) in
          record {
            here = more.here;
            found_is = k.found_is ∙ g.0 ∙ sym g.1 ∙ ap long_name (sym more.sections_more);
            holds = put-if-more writing old 8 (entries before) (entry_for file s) on k.holds at h ∙ ap (put_if writing old 8) with-entry;
          }

      -- the section was only counted
      pub entered-counted : {f : Option ℕ} → writing ≡ false → f ≡ with_name found (s.block.to - s.block.from) s.from
          → Entered limit file old writing d f out
      entered-counted off e =
          let p = more.placed in
          let i = more.is_section in
          let l = long_name before in
          record {
            here = more.here;
            found_is = e ∙ ap (λ (f : Option ℕ). with_name f (s.block.to - s.block.from) s.from) k.found_is
                ∙ ap (λ (n : ℕ). with_name l n s.from) (name-length i) ∙ ap (with_name l (length p.section.block)) (boundary-is i)
                ∙ sym (found-last before p) ∙ ap long_name (sym more.sections_more);
            holds = k.holds ∙ put-if-off writing old 8 (entries before) (entries (sections 0 more.here.done)) off;
          }
