-- One pass over a file: from what the walk says to the number of the sections, and to the section with a number.
-- Assumes nothing.
use mathlib.Core.Path.{◌≡◌, refl, sym, ap, ◌∙◌, subst}
use Rattle.std.specs.Prelude.{Option, None, Some, Result, Ok, Err}
use mathlib.Core.List.{List, [], ◌∷◌, ◌++◌}
use Prim.Native.Nat.{ℕ, zero, suc, ◌≤◌}
use native.Mathlib.Omega.{arith}
use lib.ListN.{length}
use Rattle.cbf_walk.specs.Reading.{Item, Reading, refused, good}
use Rattle.cbf_answers.specs.declared.Refusal.{Refusal}
use Rattle.cbf_answers.specs.Limits.{file_limit}
use Rattle.cbf_format.specs.Listing.{Placed, sections, numbered}
use Rattle.cbf_reader.specs.Walk.{whole, start_cursor, ReadTo, NextSays}
use Rattle.cbf_reader.specs.WholeFile.{FoundAt, PlaceIs, PlaceSays, NumberedIs, NumberedSays}
use Rattle.cbf_reader.specs.WholeFile.{RequestedIs, WholeFileSays}
use Rattle.cbf_reader.specs.declared.step.Cursor.{Cursor}
use Rattle.cbf_format.specs.declared.Section.{Section}
use Rattle.cbf_reader.specs.declared.walk.NextSection.{NextSection}
use Rattle.cbf_reader.specs.declared.whole_file.SectionFound.{SectionFound}
use Rattle.cbf_reader.proofs.LoopLaws.{LoopAt, loop-start, AllRead, loop-count, loop-refused}
use Rattle.cbf_reader.proofs.LoopLaws.{loop-end, loop-more}
use Rattle.cbf_format.specs.Sections as S
use Rattle.cbf_format.specs.Files as F

-- the last of some sections has their number
numbered-last : (n : ℕ) (l : List Placed) (p : Placed) → n ≡ suc (length l) → numbered n (l ++ (p ∷ [])) ≡ Some p
unfolding numbered
numbered-last zero l p h = absurd (omega arith)
numbered-last (suc zero) [] p h = refl
numbered-last (suc (suc n)) [] p h = absurd (omega arith)
numbered-last (suc zero) (q ∷ l) p h = absurd (omega arith)
numbered-last (suc (suc n)) (q ∷ l) p h = numbered-last (suc n) l p (omega arith)

-- and changes none of the others
numbered-other : (n : ℕ) (l : List Placed) (p : Placed) → (n ≡ suc (length l) → ⊥) → numbered n (l ++ (p ∷ [])) ≡ numbered n l
unfolding numbered
numbered-other zero l p h = refl
numbered-other (suc zero) [] p h = absurd (h refl)
numbered-other (suc (suc n)) [] p h = refl
numbered-other (suc zero) (q ∷ l) p h = refl
numbered-other (suc (suc n)) (q ∷ l) p h = numbered-other (suc n) l p (λ e. h (ap suc e))

-- the section requested is among those before the cursor or not yet found
pub record Surveyed (limit : ℕ) (file : List ℕ) (number : ℕ) (c : Cursor) (requested : Option SectionFound) : Type 0 where
  pub here : LoopAt limit file c
  pub requested_is : RequestedIs limit file number (numbered number (sections 0 here.done)) requested

no-section : (number : ℕ) → numbered number [] ≡ None
unfolding numbered
no-section zero = refl
no-section (suc n) = refl

pub surveyed-start : (limit : ℕ) (file : List ℕ) (number : ℕ) (c : Cursor) → c ≡ start_cursor → length file ≤ file_limit → Surveyed limit file number c None
unfolding sections
surveyed-start limit file number c e h = record { here = loop-start limit file c e h; requested_is = rw (no-section number) refl }

module _ {limit : ℕ} {file : List ℕ} {number : ℕ} {c : Cursor} {requested : Option SectionFound} (k : Surveyed limit file number c requested) where
  -- the file ends at the cursor
  all-surveyed : AllRead k.here → WholeFileSays limit file number (whole limit file) (Ok (record { count = c.count; requested = requested }))
  all-surveyed all =
      let e = sym all.2 in
      let n : c.count ≡ length (sections 0 all.0) = loop-count k.here ∙ ap length e in
      rw all.1 (
        requested,
        ap (λ (m : ℕ). Ok (record { count = m; requested = requested })) n,
        subst (λ (l : List Placed). RequestedIs limit file number (numbered number l) requested) e k.requested_is,
      )

  -- what reading on from the cursor gave
  module _ {r : Result (Option NextSection) Refusal} (says : (done : F.Tree) → ReadTo limit file done c → NextSays limit file done r) where
    pub surveyed-refused : {q : Refusal} → r ≡ Err q → WholeFileSays limit file number (whole limit file) (Err q)
    surveyed-refused is = rw (loop-refused k.here says is) refl

    pub surveyed-end : r ≡ Ok None
        → WholeFileSays limit file number (whole limit file) (Ok (record { count = c.count; requested = requested }))
    surveyed-end is = all-surveyed (loop-end k.here says is)

    -- a section more: it is the one requested, or another
    module _ {n : NextSection} (is : r ≡ Ok (Some n)) where
      abbrev found : SectionFound
      found = record { before = c; section = n.section; after = n.after }

      pub surveyed-here : n.after.count ≡ number → Surveyed limit file number n.after (Some found)
      surveyed-here e =
          let l = k.here in
          let m = loop-more l says is in
          let i = sym e ∙ m.count_more in
          let b : FoundAt limit file number found =
          record {
            done = l.done;
            come = l.come;
            before = sym i;
            outside = l.outside;
            next = λ done come. subst (NextSays limit file done) is (says done come);
          } in
          let last = numbered-last number (sections 0 l.done) m.placed i in
          record { here = m.here; requested_is = rw (m.sections_more, last) (found, refl, m.is_section, b) }

      pub surveyed-other : (n.after.count ≡ number → ⊥) → Surveyed limit file number n.after requested
      surveyed-other h =
          let m = loop-more k.here says is in
          let others = numbered-other number (sections 0 k.here.done) m.placed (λ e. h (m.count_more ∙ sym e)) in
          record { here = m.here; requested_is = rw (m.sections_more, others) k.requested_is }

-- the section alone, of what is said of it and of the cursors at it
abbrev pub numbered_in : Result SectionFound Refusal → Result Section Refusal
numbered_in (Err q) = Err q
numbered_in (Ok f) = Ok f.section

pub place-numbered : (limit : ℕ) (file : List ℕ) (number : ℕ) (reading : Reading (Item F.State S.Section))
    {r x : Result SectionFound Refusal} → r ≡ x → PlaceSays limit file number reading r
    → NumberedSays file number reading (numbered_in x)
place-numbered limit file number reading {r} {x} is says = rw (← is) (go reading says)
  where
    go : (reading : Reading (Item F.State S.Section)) → PlaceSays limit file number reading r
        → NumberedSays file number reading (numbered_in r)
    go (refused k p) says = ap numbered_in says
    go (good its) says = by (numbered number (sections 0 its)) says
      where
        by : (o : Option Placed) → PlaceIs limit file number o r → NumberedIs file o (numbered_in r)
        by None e = ap numbered_in e
        by (Some p) h = (h.0.section, ap numbered_in h.1, h.2)
