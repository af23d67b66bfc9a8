-- The loop that rewrites a file: at its start, with one chosen section more, and after the last one. Assumes nothing.
use mathlib.Core.Path.{◌≡◌, refl, sym, ap, ◌∙◌, subst}
use Rattle.std.specs.Prelude.{Option, Some, None, Result, Ok, Err}
use mathlib.Core.Bool.{Bool, true, false}
use mathlib.Core.List.{List, [], ◌∷◌, ◌++◌, append-nil}
use Prim.Native.Nat.{ℕ, suc, min, ◌+◌, ◌*◌, ◌-◌, ◌≤◌, ◌<◌}
use native.Mathlib.Omega.{arith}
use borrow.Author.Tests.{le-leb, lt-leb, leb-true, leb-false}
use lib.Dec.{leb}
use lib.ListN.{length, drop, get_or, length-append}
use lib.Seq.{slice, sets, drop-cons, drop-length, length-slice}
use lib.IntN.{ℤ}
use Rattle.cbf_walk.specs.Reading.{Item, Reading, good}
use Rattle.cbf_walk.specs.Exchange.{Exchange, exchanged}
use Rattle.cbf_walk.proofs.ReadingLaws.{refused≢good}
use Rattle.cbf_pixels.specs.Pixels.{pack_byte_offset}
use Rattle.cbf_answers.specs.declared.Refusal.{Refusal}
use Rattle.cbf_answers.specs.Answers.{Outcome, gives, refuses}
use Rattle.cbf_answers.specs.Rooms.{room_for}
use Rattle.cbf_answers.proofs.Rooms.{Says, refusal, no_room, has_room}
use Rattle.cbf_answers.specs.Limits.{file_limit}
use Rattle.cbf_format.specs.Listing.{Placed, sections, numbered}
use Rattle.cbf_format.specs.House.{house, exchanges, replaced_sections}
use Rattle.cbf_format.specs.declared.Section.{Section}
use Rattle.cbf_format.specs.ReplaceCalls.{room_for_file}
use Rattle.cbf_format.proofs.FileLaws.{accepted as accepted-file}
use Rattle.cbf_format.proofs.ReplacementLaws.{SpanAt, span-at}
use Rattle.cbf_reader.specs.Walk.{whole, ReadTo, SectionOf, NextSays}
use Rattle.cbf_reader.specs.WholeFile.{FoundAt}
use Rattle.cbf_reader.specs.declared.walk.NextSection.{NextSection}
use Rattle.cbf_reader.specs.declared.whole_file.SectionFound.{SectionFound}
use Rattle.cbf_reader.proofs.WalkLaws.{read_whole}
use Rattle.cbf_reader.proofs.LoopLaws.{LoopMore, loop-before, loop-count, loop-front, before-count}
use Rattle.cbf_reader.proofs.LoopLaws.{loop-refused, loop-end, loop-more}
use Rattle.cbf_write.proofs.PutLaws.{put_if, put-if-length, put-if-none}
use Rattle.cbf_rewrite.specs.Parts.{part_in, through_span, PartFits, SpanIn, SpanAhead}
use Rattle.cbf_house.specs.Span.{Packed}
use Rattle.cbf_rewrite.specs.declared.rewrite.Chosen.{Chosen}
use Rattle.cbf_rewrite.specs.Rewrite.{sections_of, rewritten, ChosenSection, Rewritable, FoundHere, MoreAfter}
use Rattle.cbf_rewrite.proofs.PartsLaws.{part_in_lem, part-more}
use Rattle.cbf_house.proofs.SpanLaws.{house-short}
use Rattle.cbf_rewrite.proofs.ExchangesLaws.{exchanges-skip, ordered-drop, ordered-sections, section-next}
use Rattle.cbf_rewrite.proofs.ChosenLaws.{octets_from, octets-before, choice}
use Rattle.cbf_rewrite.proofs.ChosenLaws.{Made, made_all, made-to, made-low, part, made-part, made-chosen}
use Rattle.cbf_format.specs.Sections as S
use Rattle.cbf_format.specs.Files as F

-- ---- the section after one that was found

read-good : (limit : ℕ) (file : List ℕ) (its : F.Tree) → F.read limit file ≡ good its → whole limit file ≡ good its
read-good limit file its e =
    let a = accepted-file limit file its e in
    sym (read_whole limit file a.not_empty a.not_long) ∙ e

module _ {limit : ℕ} {file : List ℕ} {f : SectionFound} (m : MoreAfter limit file f) where
  -- with it the reader has come to the cursor after it
  found-more : LoopMore (loop-before m.here) f.section f.after
  found-more = loop-more (loop-before m.here) m.here.next refl

  after-count : f.after.count ≡ suc f.before.count
  after-count = found-more.count_more ∙ ap suc (sym (loop-count (loop-before m.here)))

  module _ {r : Result (Option NextSection) Refusal} (says : (done : F.Tree) → ReadTo limit file done f.after → NextSays limit file done r) where
    next-not_refused : {q : Refusal} → r ≡ Err q → ⊥
    next-not_refused is = refused≢good (sym (loop-refused found-more.here says is) ∙ read-good limit file m.its m.accepted)

    next-not_none : r ≡ Ok None → ⊥
    next-not_none is =
        let a = loop-end found-more.here says is in
        let same : a.0 ≡ m.its = let w = sym a.1 ∙ read-good limit file m.its m.accepted in cc in
        omega (arith, m.more, after-count, loop-count found-more.here, ap length (sym (ap (sections 0) same) ∙ a.2))

  pub next-is_some : (r : Result (Option NextSection) Refusal) → ((done : F.Tree) → ReadTo limit file done f.after → NextSays limit file done r)
      → (n : NextSection) × (r ≡ Ok (Some n))
  next-is_some (Ok (Some n)) says = (n, refl)
  next-is_some (Ok None) says = absurd (next-not_none says refl)
  next-is_some (Err q) says = absurd (next-not_refused says refl)

  -- it is the one with the next number
  pub next-found : {n : NextSection} → ((done : F.Tree) → ReadTo limit file done f.after → NextSays limit file done (Ok (Some n)))
      → (f.after.count ≡ f.before.count + 1) × FoundHere limit file (record { before = f.after; section = n.section; after = n.after })
  next-found {n} says = (
    omega (arith, after-count),
    record {
      done = found-more.here.done;
      come = found-more.here.come;
      before = ap suc (sym (loop-count found-more.here));
      outside = found-more.here.outside;
      next = says;
    },
  )

-- ---- the section that was found, in the file

-- the span of a section of the code
span-in : {file : List ℕ} {p : Placed} {s : Section} → SectionOf file p s → SpanAt file p → SpanIn file s
span-in {file} i a =
    subst (SpanIn file) (sym i.fields) (record { low = omega arith; inside = a.inside; short = a.short })

module _ {limit : ℕ} {file : List ℕ} {its : F.Tree} (good-file : F.read limit file ≡ good its) {f : SectionFound}
    (here : FoundHere limit file f) where
  abbrev more : LoopMore (loop-before here) f.section f.after
  more = loop-more (loop-before here) here.next refl

  abbrev placed : Placed
  placed = more.placed

  is_section : SectionOf file placed f.section
  is_section = more.is_section

  -- it is the first of the sections from it on
  first-ahead : let l = sections 0 its in
      (drop f.before.count l ≡ placed ∷ drop (suc f.before.count) l) × (numbered (suc f.before.count) l ≡ Some placed)
  first-ahead =
      let a = sections 0 here.done in
      let b = loop-front more.here its (read-good limit file its good-file) in
      section-next a placed b.0 (b.1 ∙ ap (λ (a : List Placed). a ++ b.0) more.sections_more)
      (loop-count (loop-before here))

  span : SpanIn file f.section
  span = span-in is_section (span-at limit (suc f.before.count) file its placed good-file first-ahead.1)

-- ---- the loop

-- what a list of chosen sections has past its end
abbrev pub no_choice : Chosen
no_choice = record { number = 0; end = 0; size = 0 }

-- the new file up to a chosen section that was found, or to the first section that was: its bytes end at the place
-- `at`, and are in the output where they are written; k chosen sections are in it
pub record Rewriting (limit : ℕ) (file : List ℕ) (chosen : List Chosen) (frames : List ℤ) (old : List ℕ) (writing : Bool)
    (f : SectionFound) (k first from at : ℕ) (out : List ℕ) : Type 0 where
  pub found : SectionFound
  pub pre : Rewritable limit file chosen frames found
  pub room : writing ≡ true → length (rewritten limit file chosen frames) ≤ length old
  pub here : FoundHere limit file f
  pub passed : ℕ
  pub not_behind : f.before.count ≤ passed
  pub done : List ℕ
  pub made : Made file (sections 0 pre.its) frames (rewritten limit file chosen frames) passed first from
      (drop k chosen) done
  pub not-past : k ≤ length chosen
  pub from_in : from ≤ length file
  pub length_is : at ≡ length done
  pub bound : at ≤ from + k * 2_147_483_648
  pub holds : out ≡ put_if writing old 0 done

pub rewriting-start : {limit : ℕ} {file : List ℕ} {chosen : List Chosen} {frames : List ℤ} {old : List ℕ} {writing : Bool}
    {found : SectionFound} → Rewritable limit file chosen frames found
    → (writing ≡ true → length (rewritten limit file chosen frames) ≤ length old)
    → Rewriting limit file chosen frames old writing found 0 0 0 0 old
unfolding replaced_sections
rewriting-start {limit} {file} {chosen} {frames} {old} {writing} {found} pre room =
    let n = found.before.count in
    let l = sections 0 pre.its in
    let f = octets_from 0 chosen frames in
    let e : 1 + n ≡ suc n = omega arith in
    record {
      found = found;
      pre = pre;
      room = room;
      here = subst (λ (m : ℕ). FoundAt limit file m found) (sym (before-count pre.here)) pre.here;
      passed = n;
      not_behind = omega arith;
      done = [];
      made = record {
        ordered = ordered-drop 0 n l (ordered-sections limit file pre.its pre.accepted);
        choices = pre.choices;
        whole = ap (λ (r : Reading (Item F.State S.Section)). replaced_sections file (sections_of r) f) pre.accepted
            ∙ ap (λ (xs : List Exchange). exchanged 0 xs file) (exchanges-skip f 1 n l
            (λ m h. octets-before (length l) frames n 0 chosen m pre.choices (omega arith))
            ∙ ap (λ (j : ℕ). exchanges f j (drop n l)) e);
      };
      not-past = omega arith;
      from_in = omega arith;
      length_is = refl;
      bound = omega arith;
      holds = put-if-none writing old 0;
    }

module _ {limit : ℕ} {file : List ℕ} {chosen : List Chosen} {frames : List ℤ} {old : List ℕ} {writing : Bool}
    {f : SectionFound} {k first from at : ℕ} {out : List ℕ}
    (r : Rewriting limit file chosen frames old writing f k first from at out) where
  abbrev its : F.Tree
  its = r.pre.its

  abbrev l : List Placed
  l = sections 0 its

  abbrev new : List ℕ
  new = rewritten limit file chosen frames

  file-short : length file ≤ file_limit
  file-short = r.here.come.ready.short

  pub rewriting-kept : length out ≡ length old
  rewriting-kept = ap length r.holds ∙ put-if-length writing old 0 r.done

  -- a part of the new file that follows
  part-fits : (part tail : List ℕ) → new ≡ (r.done ++ part) ++ tail → PartFits writing out at part
  part-fits part tail e =
      record {
        not_far = omega (arith, r.bound, r.not-past, r.pre.few, r.from_in, file-short);
        room = λ on. omega (
          arith,
          r.room on,
          rewriting-kept,
          r.length_is,
          ap length e,
          length-append (r.done ++ part) tail,
          length-append r.done part,
        );
      }

  -- all chosen sections are passed
  module _ (all : length chosen ≤ k) where
    ended : new ≡ r.done ++ drop from file
    ended =
        let q : k ≡ length chosen = omega (arith, r.not-past) in
        let e : drop k chosen ≡ [] = ap (λ (j : ℕ). drop j chosen) q ∙ drop-length chosen in
        made_all (subst (λ (cs : List Chosen). Made file l frames new r.passed first from cs r.done) e r.made)

    pub rewriting-rest : (from ≤ length file) × (length file ≤ file_limit) × PartFits writing out at (drop from file)
    rewriting-rest = (
      r.from_in,
      file-short,
      part-fits (drop from file) [] (ended ∙ sym (append-nil (r.done ++ drop from file))),
    )

    pub rewriting-done : {n : ℕ} {last : List ℕ} → n ≡ at + length (drop from file)
        → last ≡ part_in writing out at (drop from file) → (n ≡ length new) × (last ≡ part_in writing old 0 new)
    rewriting-done e h = (
      omega (arith, e, r.length_is, ap length ended, length-append r.done (drop from file)),
      part-more writing old r.done (drop from file) r.holds r.length_is h
          ∙ ap (put_if writing old 0) (sym ended)
          ∙ part_in_lem writing old 0 new,
    )

  -- there is a chosen section ahead
  module _ (d : Chosen) (inside : k < length chosen) where
    abbrev x : Chosen
    x = get_or chosen k d

    abbrev cs : List Chosen
    cs = drop (suc k) chosen

    next : Made file l frames new r.passed first from (x ∷ cs) r.done
    next = subst (λ (cs : List Chosen). Made file l frames new r.passed first from cs r.done) (drop-cons chosen k d inside) r.made

    pub rewriting-choice : ChosenSection r.passed (length l) first frames x
    rewriting-choice = choice (length l) frames r.passed first x cs next.choices

    -- it is not before the section that was found
    pub rewriting-below : f.before.count < x.number
    rewriting-below = omega (arith, r.not_behind, rewriting-choice.above)

    module _ {f' : SectionFound} (here : FoundHere limit file f') where
      -- a section before it has one after it
      pub rewriting-ahead : f'.before.count + 1 < x.number → MoreAfter limit file f'
      rewriting-ahead h =
          record { its = its; accepted = r.pre.accepted; here = here; more = omega (arith, h, rewriting-choice.there) }

      -- it is found
      module _ (is : suc f'.before.count ≡ x.number) where
        abbrev s : Section
        s = f'.section

        abbrev p : Placed
        p = placed r.pre.accepted here

        to-it : Made file l frames new f'.before.count first from (x ∷ cs) r.done
        to-it = made-to f'.before.count next (omega (arith, is, rewriting-choice.above)) (omega (arith, is))

        abbrev there : drop f'.before.count l ≡ p ∷ drop (suc f'.before.count) l
        there = (first-ahead r.pre.accepted here).0

        from_is : s.from ≡ p.boundary
        from_is = ap (λ (s : Section). s.from) (is_section r.pre.accepted here).fields

        to_is : s.to ≡ p.boundary + p.section.width
        to_is = ap (λ (s : Section). s.to) (is_section r.pre.accepted here).fields

        from_low : from ≤ s.from
        from_low = omega (arith, made-low p there to-it is, from_is)

        in_file : SpanIn file s
        in_file = span r.pre.accepted here

        -- with its frame
        module _ {frame : List ℤ} (is-frame : frame ≡ slice first x.end frames) where
          abbrev text : List ℕ
          text = through_span file from s (pack_byte_offset frame)

          abbrev piece : List ℕ
          piece = part p there to-it is

          text-is : text ≡ piece
          text-is =
              ap (λ (f : List ℤ). through_span file from s (pack_byte_offset f)) is-frame
              ∙ ap (λ (s : Section). through_span file from s (pack_byte_offset (slice first x.end frames)))
              (is_section r.pre.accepted here).fields

          pub rewriting-span : SpanAhead file from s x.size frame × PartFits writing out at text
          rewriting-span =
              let t = made-part p there to-it is in (
                record {
                  span = in_file;
                  ahead = from_low;
                  packed = subst (λ (f : List ℤ). Packed f x.size) (sym is-frame) rewriting-choice.packed;
                  few = rewriting-choice.few;
                },
                part-fits text t.0 (t.1 ∙ ap (λ (b : List ℕ). (r.done ++ b) ++ t.0) (sym text-is)),
              )

          text-short : length text ≤ s.from - from + x.size + 566
          text-short =
              let os = pack_byte_offset frame in
              let before = slice from s.from file in
              omega (
                arith,
                length-append before (house s.description os),
                length-slice from s.from file (omega (arith, in_file.low, in_file.inside)),
                house-short s.description os,
                rewriting-span.0.packed.counted,
              )

          pub rewriting-chosen : {n : ℕ} {last : List ℕ} → n ≡ at + length text → last ≡ part_in writing out at text
              → Rewriting limit file chosen frames old writing f' (k + 1) x.end s.to n last
          rewriting-chosen {n} {last} e h =
              let m = made-chosen p there to-it is in
              let q : k + 1 ≡ suc k = omega arith in
              record {
                found = r.found;
                pre = r.pre;
                room = r.room;
                here = here;
                passed = suc f'.before.count;
                not_behind = omega arith;
                done = r.done ++ text;
                made = coe 0 1
                    (i. Made file l frames new (suc f'.before.count) x.end (sym to_is i) (drop (sym q i) chosen) (r.done ++ sym text-is i))
                    m;
                not-past = omega (arith, inside);
                from_in = in_file.inside;
                length_is = omega (arith, e, r.length_is, length-append r.done text);
                bound = omega (arith, e, text-short, r.bound, rewriting-choice.few, in_file.low, from_low);
                holds = part-more writing old r.done text r.holds r.length_is h;
              }

-- ---- what is answered

module _ (new old : List ℕ) where
  abbrev pub SaysFile : Outcome → List ℕ → Type 0
  SaysFile said out = Says (room_for_file new (length old)) new old said out

  module _ {n : ℕ} (length_is : n ≡ length new) where
    file-long : file_limit < n → SaysFile (refuses 15 0) old
    unfolding room_for_file
    file-long h = refusal new old (sym (rw (lt-leb (length new) file_limit (omega arith)) refl))

    roomed : n ≤ file_limit → room_for_file new (length old) ≡ room_for new (length old)
    unfolding room_for_file
    roomed h = rw (le-leb (length new) file_limit (omega arith)) refl

    pub file-refused : min (length old) file_limit < n → SaysFile (refuses 15 0) old
    file-refused h = go (leb (length new) file_limit) refl
      where
        go : (b : Bool) → leb (length new) file_limit ≡ b → SaysFile (refuses 15 0) old
        go true q =
            let few : n ≤ file_limit = omega (arith, length_is, leb-true (length new) file_limit q) in
            no_room new old (roomed few) length_is (omega (arith, few, h))
        go false q = file-long (omega (arith, length_is, leb-false (length new) file_limit q))

    pub file-done : n ≤ min (length old) file_limit → SaysFile (gives n) (sets old 0 new)
    file-done h = has_room new old (roomed (omega (arith, h))) length_is (omega (arith, h))
