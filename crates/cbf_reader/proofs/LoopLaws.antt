-- A loop over the sections of a file: at its start, with one section more, and where the file ends or is refused.
-- Assumes nothing.
use mathlib.Core.Path.{◌≡◌, refl, sym, ◌∙◌, ap, subst}
use mathlib.Core.Bool.{Bool, true, false}
use Prim.Native.Nat.{ℕ, suc, ◌+◌, ◌-◌, ◌≤◌, ◌<◌}
use Rattle.cbf_walk.specs.Reading.{Item, Reading, refused, good, flat, from}
use Rattle.cbf_walk.proofs.ReadingLaws.{refused≢good, onto-good}
use mathlib.Core.List.{List, [], ◌∷◌, ◌++◌}
use native.Mathlib.Omega.{arith}
use lib.ListN.{length, length-append}
use Rattle.cbf_answers.specs.declared.Refusal.{Refusal}
use Rattle.cbf_answers.specs.Limits.{file_limit}
use Rattle.cbf_format.specs.Listing.{Placed, sections}
use Rattle.cbf_reader.specs.Walk.{whole, start_cursor, ReadTo, SectionOf, NextSays, opened_at, end_of}
use Rattle.std.specs.Prelude.{Option, None, Some, Result, Ok, Err}
use Rattle.cbf_reader.specs.WholeFile.{FoundAt}
use Rattle.cbf_reader.specs.declared.whole_file.SectionFound.{SectionFound}
use Rattle.cbf_reader.specs.declared.step.Cursor.{Cursor}
use Rattle.cbf_format.specs.declared.Section.{Section}
use Rattle.cbf_reader.specs.declared.step.Field.{Field}
use Rattle.cbf_reader.specs.declared.step.Field.TheVariants.{Outside}
use Rattle.cbf_reader.specs.declared.walk.NextSection.{NextSection}
use Rattle.cbf_reader.proofs.SectionCounts.{sections-append, sections-lines, sections-found}
use Rattle.cbf_reader.proofs.WalkLaws.{come-start, come-length, walked_start, walk_end}
use Rattle.cbf_format.specs.Sections as S
use Rattle.cbf_format.specs.Files as F

-- ---- a file that is refused

-- nothing is written of it where only an accepted one is written
pub refused-off : (writing : Bool) {r : Reading (Item F.State S.Section)} {k p : ℕ} → (writing ≡ true → (its : F.Tree) × (r ≡ good its)) → r ≡ refused k p
    → writing ≡ false
refused-off false fits e = refl
refused-off true fits e = absurd (refused≢good (sym e ∙ (fits refl).1))

-- the loop came to the cursor, before the first line or after a section
pub record LoopAt (limit : ℕ) (file : List ℕ) (c : Cursor) : Type 0 where
  pub done : F.Tree
  pub come : ReadTo limit file done c
  pub outside : 0 < c.at → c.field ≡ Outside

-- before the first line (an abbreviation: a use sees that no items were read)
abbrev pub loop-start : (limit : ℕ) (file : List ℕ) (c : Cursor) → c ≡ start_cursor → length file ≤ file_limit → LoopAt limit file c
loop-start limit file c e h = record {
  done = [];
  come = come-start limit file c e h;
  outside = λ more. absurd (omega (arith, ap (λ (x : Cursor). x.at) e));
}

-- it comes to the cursor d, with the section s more
pub record LoopMore {limit : ℕ} {file : List ℕ} {c : Cursor} (k : LoopAt limit file c) (s : Section) (d : Cursor) : Type 0 where
  pub here : LoopAt limit file d
  pub placed : Placed
  pub is_section : SectionOf file placed s
  pub sections_more : sections 0 here.done ≡ sections 0 k.done ++ (placed ∷ [])
  pub count_more : d.count ≡ suc (length (sections 0 k.done))

module _ {limit : ℕ} {file : List ℕ} {c : Cursor} (k : LoopAt limit file c) where
  -- the whole file is read, and has no section more
  abbrev pub AllRead : Type 0
  AllRead = (its : F.Tree) × (whole limit file ≡ good its) × (sections 0 its ≡ sections 0 k.done)

  ended : NextSays limit file k.done (Ok None) → AllRead
  ended says = (k.done ++ says.0, says.1, sections-lines k.done says.0 says.2)

  pub loop-count : c.count ≡ length (sections 0 k.done)
  loop-count = k.come.stands.count ∙ sym k.come.counted

  -- the sections so far are the first ones of a file that is accepted
  pub loop-front : (its : F.Tree) → whole limit file ≡ good its → (rest : List Placed) × (sections 0 its ≡ sections 0 k.done ++ rest)
  loop-front its e =
      let g = k.come in
      let b = onto-good k.done (from 11 (F.step limit) F.due file_limit file c.at g.state) its (sym g.reached.so_far ∙ e) in
      (sections (0 + length (flat k.done)) b.0, ap (sections 0) b.1 ∙ sections-append k.done b.0 0)

  -- the file ends at the cursor
  pub loop-past : 0 < length file → length file ≤ c.at → AllRead
  loop-past some_byte past =
      let w = walked_start limit file c k.come.ready k.done k.come in
      ended (subst (λ (f : Field). NextSays limit file k.done (end_of (opened_at f))) (k.outside (omega arith))
      (walk_end limit file c k.come.ready past k.done w.0 w.1 w.2))

  -- what reading on from the cursor gave
  module _ {r : Result (Option NextSection) Refusal} (says : (done : F.Tree) → ReadTo limit file done c → NextSays limit file done r) where
    told : {x : Result (Option NextSection) Refusal} → r ≡ x → NextSays limit file k.done x
    told is = subst (NextSays limit file k.done) is (says k.done k.come)

    pub loop-refused : {q : Refusal} → r ≡ Err q → whole limit file ≡ refused q.number q.place
    loop-refused is = told is

    pub loop-end : r ≡ Ok None → AllRead
    loop-end is = ended (told is)

    module _ {n : NextSection} (is : r ≡ Ok (Some n)) where
      -- the cursor moved on in the file
      pub loop-onward : length file - n.after.at < length file - c.at
      loop-onward =
          let f = told is in
          omega (arith, come-length limit file k.come, f.7, f.8.ready.at_in)

      pub loop-more : LoopMore k n.section n.after
      loop-more =
          let f = told is in
          let p : Placed = record { boundary = length (flat (k.done ++ f.0)); section = f.2 } in
          let m = sections-found k.done f.0 f.1 f.2 f.4 f.3 in
          record {
            here = record { done = k.done ++ (f.0 ++ (f.1 ∷ [])); come = f.8; outside = λ z. f.6 };
            placed = p;
            is_section = f.5;
            sections_more = m;
            count_more = f.8.stands.count ∙ sym f.8.counted ∙ ap length m ∙ omega (arith, length-append (sections 0 k.done) (p ∷ []));
          }

-- a loop may begin at the cursor before the section with a number
module _ {limit : ℕ} {file : List ℕ} {n : ℕ} {f : SectionFound} (b : FoundAt limit file n f) where
  abbrev pub loop-before : LoopAt limit file f.before
  loop-before = record { done = b.done; come = b.come; outside = b.outside }

  pub before-count : suc f.before.count ≡ n
  before-count = ap suc (loop-count loop-before) ∙ b.before
