-- The walk over a file: what its length, a step from the cursor, and the file's end mean for the reading of the whole
-- file. Assumes nothing.
use mathlib.Core.Path.{◌≡◌, refl, sym, ap, ◌∙◌, subst}
use Rattle.std.specs.Prelude.{Option, None, Some, Result, Ok, Err}
use mathlib.Core.List.{List, [], ◌∷◌, ◌++◌, append_assoc, append-nil}
use Prim.Native.Nat.{ℕ, ◌+◌, ◌-◌, ◌≤◌, ◌<◌}
use native.Mathlib.Omega.{arith}
use borrow.Author.Tests.{le-leb, lt-leb}
use lib.ListN.{length, drop, length-append}
use lib.Seq.{slice, slice_empty, length-take-le}
use Rattle.cbf_walk.specs.Parsers.{Res, bad, cut, ok}
use Rattle.cbf_walk.specs.Reading.{Item, refused, good, flat, broke, Reached}
use Rattle.cbf_walk.proofs.Good.{item_at}
use Rattle.cbf_walk.proofs.ReadingLaws.{reached-start, reached-end, reached-late, reached-bad, reached-cut}
use Rattle.cbf_walk.proofs.ReadingLaws.{reached-ok, moved, flat_append}
use Rattle.cbf_answers.specs.Limits.{file_limit}
use Rattle.cbf_format.specs.Listing.{add_placed, sections}
use Rattle.cbf_format.proofs.FileLaws.{step-tame, step-moves, took}
use Rattle.cbf_reader.specs.Step.{section_at, field_at, Back, CursorOf, Ready, StepSays}
use Rattle.cbf_reader.specs.Walk.{whole, start_cursor, ReadTo, SectionOf, NextSays, FieldReady, opened_at, open_place, end_of}
use Rattle.cbf_format.specs.declared.Section.{Section}
use Rattle.cbf_format.specs.declared.Stop.{Stop}
use Rattle.cbf_format.specs.declared.Stop.TheVariants.{Refused, CutOff}
use Rattle.cbf_reader.specs.declared.step.Cursor.{Cursor}
use Rattle.cbf_reader.specs.declared.step.Field.{Field}
use Rattle.cbf_reader.specs.declared.step.Field.TheVariants.{First, Outside, Opened, Inside}
use Rattle.cbf_reader.specs.declared.step.Stepped.{Stepped}
use Rattle.cbf_reader.proofs.SectionCounts.{counted-on}
use Rattle.cbf_format.specs.Sections as S
use Rattle.cbf_format.specs.Files as F

-- a line adds no section
pub sections-line : (its : F.Tree) (it : Item F.State S.Section) (at : ℕ) → it.info ≡ None → sections at (its ++ (it ∷ [])) ≡ sections at its
unfolding sections
sections-line [] it at e = ap (λ (o : Option S.Section). add_placed at o []) e
sections-line (jt ∷ its) it at e = ap (add_placed at jt.info) (sections-line its it (at + length jt.bytes) e)

-- more items, more bytes
pub flat-more : (done its : F.Tree) → length (flat done) ≤ length (flat (done ++ its))
flat-more done its = omega (arith, ap length (flat_append done its), length-append (flat done) (flat its))

-- where the file's end is refused
cut-place : (at : ℕ) (f : F.Field) → broke {St = F.State} {Info = S.Section} 11 at (F.open_field f) ≡ refused 11 (open_place (field_at at f) at)
cut-place at F.first_line = refl
cut-place at F.outside = refl
cut-place at (F.opened n) = refl
cut-place at (F.inside n) = refl

-- an empty file, and one with a byte
pub read_empty : (limit : ℕ) (file : List ℕ) → length file ≡ 0 → F.read limit file ≡ refused 1 0
unfolding F.read
read_empty limit [] h = refl
read_empty limit (x ∷ xs) h = absurd (omega (arith, h))

read_some_lem : (limit : ℕ) (file : List ℕ) → 0 < length file → F.read_some limit file ≡ whole limit file
read_some_lem limit [] h = absurd (omega (arith, h))
read_some_lem limit (x ∷ xs) h = refl

module _ (limit : ℕ) (file : List ℕ) where
  pub read_long : file_limit < length file → F.read limit file ≡ refused 4 0
  unfolding F.read
  read_long h = rw (lt-leb (length file) file_limit h)

  pub read_whole : 0 < length file → length file ≤ file_limit → F.read limit file ≡ whole limit file
  unfolding F.read
  read_whole some_byte fits = rw (le-leb (length file) file_limit fits) (read_some_lem limit file some_byte)

pub ruleset reads = (read_long, read_empty, read_whole)

-- the place of a field of the code, and of the definition
pub field_back : (field : Field) (at : ℕ) → FieldReady field at → (f : F.Field) × (Back at f × (field ≡ field_at at f))
field_back First at h = (F.first_line, (h, refl))
field_back Outside at h = (F.outside, (h, refl))
field_back (Opened p) at h = let e : p ≡ at - (at - p) = omega arith in (F.opened (at - p), (omega arith, ap Opened e))
field_back (Inside p) at h = let e : p ≡ at - (at - p) = omega arith in (F.inside (at - p), (omega arith, ap Inside e))

pub back_field : (field : Field) (at : ℕ) (f : F.Field) → Back at f → field ≡ field_at at f → FieldReady field at
back_field field at f h e = subst (λ (z : Field). FieldReady z at) (sym e) (go f h)
  where
    go : (f : F.Field) → Back at f → FieldReady (field_at at f) at
    go F.first_line h = h
    go F.outside h = h
    go (F.opened n) h = omega arith
    go (F.inside n) h = omega arith

-- lines without a section lead from the cursor c₀ to the cursor c
abbrev pub Walked : ℕ → List ℕ → Cursor → Cursor → Type 0
Walked limit file c₀ c = (done : F.Tree) → ReadTo limit file done c₀ → (its : F.Tree) × (sections 0 its ≡ []) × ReadTo limit file (done ++ its) c

-- what a step from c went over, after these items, up to the cursor d: a line, or a section
abbrev pub Went : ℕ → List ℕ → F.Tree → Option Section → Cursor → Type 0
Went limit file done None d = (it : Item F.State S.Section) × (it.info ≡ None) × ReadTo limit file (done ++ (it ∷ [])) d
Went limit file done (Some x) d =
    (it : Item F.State S.Section)
    × (i : S.Section)
    × (it.info ≡ Some i)
    × SectionOf file (record { boundary = length (flat done); section = i }) x
    × (d.field ≡ Outside)
    × (length (flat done) < d.at)
    × ReadTo limit file (done ++ (it ∷ [])) d

-- what it gave
abbrev pub Gave : ℕ → List ℕ → Cursor → F.Tree → Result Stepped Stop → Type 0
Gave limit file c done (Err (Refused r)) = whole limit file ≡ refused r.number r.place
Gave limit file c done (Err CutOff) = whole limit file ≡ refused 11 (open_place c.field c.at)
Gave limit file c done (Ok s) = Went limit file done s.section s.cursor

-- a step goes on in the file
abbrev pub Ahead : List ℕ → Cursor → Result Stepped Stop → Type 0
Ahead file c (Err e) = 0 ≤ 0
Ahead file c (Ok s) = Ready file s.cursor × (c.at < s.cursor.at)

module _ (limit : ℕ) (file : List ℕ) where
  -- before the first line
  pub come-start : (c : Cursor) → c ≡ start_cursor → length file ≤ file_limit → ReadTo limit file [] c
  unfolding sections
  come-start c e h = rw e (record {
    state = F.start;
    reached = reached-start 11 (F.step limit) F.due file_limit file F.start;
    stands = record { count = refl; block = slice_empty 0 file; back = refl; field = refl };
    counted = refl;
    ready = record {
      short = h;
      at_in = omega arith;
      few = omega arith;
      block_low = omega arith;
      block_high =
          omega arith;
      stands = (F.first_line, (refl, refl));
    };
  })

  -- the items that were read are the bytes before the cursor
  pub come-length : {done : F.Tree} {c : Cursor} → ReadTo limit file done c → length (flat done) ≡ c.at
  come-length {done} {c} k = ap length k.reached.behind ∙ length-take-le c.at file k.reached.inside

module _ (limit : ℕ) (file : List ℕ) (c : Cursor) (ready : Ready file c) where
  pub walked_start : Walked limit file c c
  unfolding sections
  walked_start done k = ([], refl, subst (λ (l : F.Tree). ReadTo limit file l c) (sym (append-nil done)) k)

  -- a line more
  pub walked_line : (c₀ d : Cursor) → Walked limit file c₀ c → ((done : F.Tree) → ReadTo limit file done c
      → Went limit file done None d) → Walked limit file c₀ d
  walked_line c₀ d w g done k =
      let a = w done k in
      let b = g (done ++ a.0) a.2 in (
        a.0 ++ (b.0 ∷ []),
        sections-line a.0 b.0 0 b.1 ∙ a.1,
        subst (λ (l : F.Tree). ReadTo limit file l d) (append_assoc done a.0 (b.0 ∷ [])) b.2,
      )

  -- some state that the cursor stands for
  some-state : (st : F.State) × CursorOf file c st
  some-state = (
    record { count = c.count; block = slice c.block.from c.block.to file; field = ready.stands.0 },
    record { count = refl; block = refl; back = ready.stands.1.0; field = ready.stands.1.1 },
  )

  -- what a step from the cursor gave
  module _ (more : c.at < length file) (s : Result Stepped Stop)
      (says : (st : F.State) → CursorOf file c st → StepSays file c (F.step limit st (drop c.at file)) s) where
    pub goes_on : Ahead file c s
    goes_on = go some-state.0 (F.step limit some-state.0 (drop c.at file)) refl (says some-state.0 some-state.1)
      where
        go : (st : F.State) (y : Res (Option S.Section × F.State)) → F.step limit st (drop c.at file) ≡ y → StepSays file c y s → Ahead file c s
        go st (bad k p) e h = subst (Ahead file c) (sym h) (omega arith)
        go st cut e h = subst (Ahead file c) (sym h) (omega arith)
        go st (ok (None, t) n) e h =
            let m = moved 11 (F.step limit) F.due file_limit file (step-moves limit) (step-tame limit) ready.short c.at st more (None, t) n e in
            let p = m.0 in
            let q = h.2.0 in
            subst (Ahead file c) (sym h.1) (h.2.2, omega arith)
        go st (ok (Some i, t) n) e h =
            let m = moved 11 (F.step limit) F.due file_limit file (step-moves limit) (step-tame limit) ready.short c.at st more (Some i, t) n e in
            let p = m.0 in
            let q = h.2.0 in
            subst (Ahead file c) (sym h.1) (h.2.2, omega arith)

    pub gave : (done : F.Tree) → ReadTo limit file done c → Gave limit file c done s
    unfolding F.due
    gave done k = go (F.step limit k.state (drop c.at file)) refl (says k.state k.stands)
      where
        after : (t : F.State) (o : Option S.Section) (n : ℕ) → F.step limit k.state (drop c.at file)
            ≡ ok (o, t) n → (d : Cursor) → d.at ≡ c.at + n → CursorOf file d t → Ready file d
            → ReadTo limit file (done ++ (item_at file c.at (o, t) n ∷ [])) d
        after t o n e d q w v = record {
          state = t;
          reached = subst (λ (z : ℕ). Reached 11 (F.step limit) F.due file_limit file F.start (done ++ (item_at file c.at (o, t) n ∷ [])) z t) (sym q)
              (reached-ok 11 (F.step limit) F.due file_limit file (step-moves limit) (step-tame limit) ready.short
              c.at k.state k.reached more (o, t) n e);
          stands = w;
          counted = counted-on limit k.state (drop c.at file) done (item_at file c.at (o, t) n) n e k.counted;
          ready = v;
        }

        go : (y : Res (Option S.Section × F.State)) → F.step limit k.state (drop c.at file) ≡ y → StepSays file c y s → Gave limit file c done s
        go (bad a p) e h =
            subst (Gave limit file c done) (sym h)
            (reached-bad 11 (F.step limit) F.due file_limit file (step-moves limit) (step-tame limit) ready.short c.at k.state k.reached more a p e)
        go cut e h =
            subst (Gave limit file c done) (sym h)
            (reached-cut 11 (F.step limit) F.due file_limit file (step-moves limit) (step-tame limit) ready.short c.at k.state k.reached more e
            ∙ cut-place c.at k.state.field ∙ ap (λ (f : Field). refused 11 (open_place f c.at)) (sym k.stands.field))
        go (ok (None, t) n) e h = subst (Gave limit file c done) (sym h.1) (
          item_at file c.at (None, t) n,
          refl,
          after t None n e h.0 h.2.0 h.2.1 h.2.2,
        )
        go (ok (Some i, t) n) e h =
            let o = took limit k.state t (drop c.at file) i n e in
            let l = come-length limit file k in
            let m = (moved 11 (F.step limit) F.due file_limit file (step-moves limit) (step-tame limit) ready.short
            c.at k.state more (Some i, t) n e).0 in
            let q = h.2.0 in
            subst (Gave limit file c done) (sym h.1) (
              item_at file c.at (Some i, t) n,
              i,
              refl,
              record {
                fields = ap (λ (z : ℕ). section_at z c.block i) (sym l);
                block = k.stands.block ∙ sym o.name;
                block_low = ready.block_low;
                block_high = ready.block_high;
              },
              h.2.1.field ∙ ap (λ (z : F.State). field_at h.0.at z.field) o.after,
              omega (arith, l, m, q),
              after t (Some i) n e h.0 h.2.0 h.2.1 h.2.2,
            )

  -- the file's end, after lines without a section
  pub walk_end : length file ≤ c.at → (done its : F.Tree) → sections 0 its ≡ [] → ReadTo limit file (done ++ its) c
      → NextSays limit file done (end_of (opened_at c.field))
  unfolding F.due
  walk_end h done its e k = subst (λ (f : Field). NextSays limit file done (end_of (opened_at f))) (sym k.stands.field) (go k.state.field refl)
    where
      ends : F.due k.state ≡ None → whole limit file ≡ good (done ++ its)
      ends q = reached-end 11 (F.step limit) F.due file_limit file (step-moves limit) (step-tame limit) ready.short c.at k.state k.reached h q

      lacks : (n : ℕ) → F.due k.state ≡ Some n → whole limit file ≡ refused 11 (c.at - n)
      lacks n q = reached-late 11 (F.step limit) F.due file_limit file (step-moves limit) (step-tame limit) ready.short c.at k.state k.reached h n q

      go : (f : F.Field) → k.state.field ≡ f → NextSays limit file done (end_of (opened_at (field_at c.at f)))
      go F.first_line q = (its, ends (ap F.open_field q), e)
      go F.outside q = (its, ends (ap F.open_field q), e)
      go (F.opened n) q = lacks n (ap F.open_field q)
      go (F.inside n) q = lacks n (ap F.open_field q)
