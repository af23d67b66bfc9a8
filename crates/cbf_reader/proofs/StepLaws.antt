-- One step of reading: the fields, the name of the data block, the section and the cursor after it. Assumes nothing.
use mathlib.Core.Path.{◌≡◌, refl, sym, ap, ◌∙◌, subst}
use Rattle.std.specs.Prelude.{Option, None, Some, Result, Ok, Err}
use mathlib.Core.Bool.{Bool, true, false, ◌&&◌, cond, not}
use mathlib.Core.List.{List, [], ◌∷◌}
use Prim.Native.Nat.{ℕ, suc, ◌+◌, ◌-◌, ◌≤◌, ◌<◌}
use native.Mathlib.Omega.{arith}
use borrow.Author.Tests.{ltb-true, ltb-false, le-leb, lt-leb}
use lib.Dec.{ltb, leb}
use lib.ListN.{length, take, drop, get_or, length-drop}
use lib.Seq.{slice, slice_empty, slice-cons, length-slice, take-take, take_all, length-take-le, drop-drop}
use Rattle.cbf_walk.specs.Parsers.{Res, bad, cut, ok, ret, plus, then, bind, counted, screen, screen_or}
use Rattle.cbf_format.specs.Text.{bytes, blank, blanks, lowers, same}
use Rattle.cbf_format.specs.Lines.{line, refused_byte, text_line}
use Rattle.cbf_answers.specs.Limits.{file_limit}
use Rattle.cbf_format.specs.declared.Encoding.{Encoding}
use Rattle.cbf_format.specs.declared.Stop.{Stop}
use Rattle.cbf_format.specs.declared.Stop.TheVariants.{Refused}
use Rattle.cbf_answers.specs.declared.Refusal.{Refusal}
use Rattle.cbf_format.proofs.SectionTame.{headers-tame, section-tame}
use Rattle.cbf_lines.specs.Text.{Run}
use Rattle.cbf_lines.specs.declared.line.Line.{Line}
use Rattle.cbf_lines.specs.Line.{line_at}
use Rattle.cbf_reader.specs.Step.{field_at, Back, CursorOf, Ready, line_of_field, NextBlock, section_read_at}
use Rattle.cbf_reader.specs.Step.{section_step, StepSays}
use Rattle.cbf_format.specs.declared.Range.{Range}
use Rattle.cbf_reader.specs.declared.step.Field.{Field}
use Rattle.cbf_reader.specs.declared.step.Field.TheVariants.{Outside}
use Rattle.cbf_reader.specs.declared.step.Cursor.{Cursor}
use Rattle.cbf_reader.specs.declared.step.SectionRead.{SectionRead}
use Rattle.cbf_reader.specs.declared.step.Stepped.{Stepped}
use Rattle.cbf_headers.specs.declared.section_headers.Headers.{Headers}
use Rattle.cbf_reader.specs.declared.data.Data.{Data}
use Rattle.cbf_format.specs.declared.Description.{Description}
use Rattle.cbf_headers.specs.SectionHeaders.{headers_read_at}
use Rattle.cbf_reader.specs.Data.{data_at}
use Rattle.cbf_reader.proofs.DataLaws.{same-turned}
use Rattle.cbf_format.proofs.Slices.{slice-take, slice-part}
use Rattle.cbf_lines.proofs.TextLaws.{by-run, same-lengths, length-lowers}
use Rattle.cbf_lines.proofs.LineLaws.{Passed, passed, says-text, says-refused}
use Rattle.cbf_format.specs.Files as F
use Rattle.cbf_format.specs.Sections.{opening}
use Rattle.cbf_format.specs.Sections as S
use Rattle.cbf_format.specs.Descriptions as D

-- ---- the name of the data block

abbrev data_word : List ℕ
data_word = bytes "data_"

abbrev pub not_blank : ℕ → Bool
not_blank b = not (blank b)

module _ (file : List ℕ) where
  pub up-to-run : {from to r : ℕ} → Run not_blank file from to r → to ≤ length file → F.up_to_blank (slice from to file) ≡ slice from r file
  up-to-run {from} {to} {r} run fits =
      by-run (λ (j : ℕ). F.up_to_blank (slice j to file) ≡ slice j r file) run
      (λ j h k e ih.
      let hi = run.high in
      ap F.up_to_blank (slice-cons j to file 0 (omega arith) fits)
      ∙ on (blank (get_or file j 0)) e j
      ∙ ap (λ (l : List ℕ). get_or file j 0 ∷ l) ih
      ∙ sym (slice-cons j r file 0 k (omega arith)))
      (end (ltb r to) refl ∙ sym (slice_empty r file))
    where
      on : (t : Bool) → not t ≡ true → (j : ℕ) → cond t [] (get_or file j 0 ∷ F.up_to_blank (slice (suc j) to file))
          ≡ get_or file j 0 ∷ F.up_to_blank (slice (suc j) to file)
      on true e j = let y : ◌≡◌ {A = ℕ} 1 0 = ap (λ (b : Bool). cond b 0 1) e in absurd (omega arith)
      on false e j = refl

      off : (t : Bool) → not t ≡ false → (l : List ℕ) → cond t [] l ≡ []
      off true e l = refl
      off false e l = let y : ◌≡◌ {A = ℕ} 0 1 = ap (λ (b : Bool). cond b 0 1) e in absurd (omega arith)

      end : (t : Bool) → ltb r to ≡ t → F.up_to_blank (slice r to file) ≡ []
      end true p =
          let l = ltb-true r to p in
          ap F.up_to_blank (slice-cons r to file 0 l fits) ∙ off (blank (get_or file r 0)) (run.stops l) (get_or file r 0 ∷ F.up_to_blank (slice (suc r) to file))
      end false p =
          let l = ltb-false r to p in
          let hi = run.high in
          let q : to ≡ r = omega arith in
          ap (λ (k : ℕ). F.up_to_blank (slice r k file)) q ∙ ap F.up_to_blank (slice_empty r file)

  module _ (at to : ℕ) (low : at ≤ to) (fits : to ≤ length file) (block : Range) where
    abbrev named : Bool → List ℕ
    named t = cond t (F.up_to_blank (drop 5 (slice at to file))) (slice block.from block.to file)

    -- a line that is too short, another line, a line that starts with the word
    pub block-short : to - at < 5 → block.from ≤ block.to → block.to ≤ length file → NextBlock file at to block block
    block-short h l k =
        let t = slice at to file in
        let len = length-slice at to file fits in
        let w : take 5 t ≡ t = take_all 5 t (omega arith) in
        let o : same (lowers (take 5 t)) data_word ≡ false
        = ap (λ (x : List ℕ). same (lowers x) data_word) w ∙ same-lengths (lowers t) data_word (λ e. let m : length t
        ≡ 5 = sym (length-lowers t) ∙ e in absurd (omega arith)) in
        record { named = sym (ap named o); low = l; high = k }

    module _ (enough : at + 5 ≤ to) where
      front : take 5 (slice at to file) ≡ slice at (at + 5) file
      front =
          let q : at ≤ length (take to file) = (let m = length-take-le to file fits in omega arith) in
          sym (slice-take (take to file) at 5 q) ∙ ap (drop at) (take-take (at + 5) to file enough)

      -- its first five bytes, as the code takes them
      abbrev five : List ℕ
      five = take ((at + 5) - at) (drop at file)

      word : (t : Bool) → t ≡ same data_word (lowers five) → same (lowers (take 5 (slice at to file))) data_word ≡ t
      word t e =
          ap (λ (x : List ℕ). same (lowers x) data_word) (front ∙ slice-part file at (at + 5) (omega arith) (omega arith))
          ∙ same-turned (lowers five) data_word ∙ sym e

      pub block-other : false ≡ same data_word (lowers five) → block.from ≤ block.to
          → block.to ≤ length file → NextBlock file at to block block
      block-other e l k = record { named = sym (ap named (word false e)); low = l; high = k }

      pub block-named : true ≡ same data_word (lowers five) → (r : ℕ) → Run not_blank file (at + 5) to r
          → NextBlock file at to block (record { from = at + 5; to = r })
      block-named e r run =
          record {
            named = sym (ap named (word true e) ∙ ap F.up_to_blank (drop-drop 5 at (take to file)) ∙ up-to-run run fits);
            low = run.low;
            high = let hi = run.high in omega arith;
          }

-- ---- the cursor after a line

pub record BlockAfter (file : List ℕ) (at to : ℕ) (x : Field) (block r : Range) : Type 0 where
  pub named : (f : F.Field) → x ≡ field_at at f → slice r.from r.to file ≡ F.next_block f (slice at to file) (slice block.from block.to file)
  pub low : r.from ≤ r.to
  pub high : r.to ≤ length file

module _ (file : List ℕ) (at to : ℕ) (block : Range) where
  pub block-outside : (x : Field) → x ≡ Outside → (r : Range) → NextBlock file at to block r → BlockAfter file at to x block r
  block-outside x o r b = record { named = λ f e. b.named ∙ go f (sym o ∙ e); low = b.low; high = b.high }
    where
      go : (f : F.Field) → Outside ≡ field_at at f
          → F.next_block F.outside (slice at to file) (slice block.from block.to file)
          ≡ F.next_block f (slice at to file) (slice block.from block.to file)
      go F.first_line e = absurd cc
      go F.outside e = refl
      go (F.opened m) e = absurd cc
      go (F.inside m) e = absurd cc

  pub block-kept : (x : Field) → (x ≡ Outside → ⊥) → block.from ≤ block.to → block.to ≤ length file → BlockAfter file at to x block block
  block-kept x h l k = record { named = go; low = l; high = k }
    where
      go : (f : F.Field) → x ≡ field_at at f → slice block.from block.to file ≡ F.next_block f (slice at to file) (slice block.from block.to file)
      go F.first_line e = refl
      go F.outside e = absurd (h e)
      go (F.opened m) e = refl
      go (F.inside m) e = refl

back_in : (at n m : ℕ) → m ≤ at → (s : Bool) → Back (at + n) (cond s F.outside (F.inside (m + n)))
back_in at n m b true = omega arith
back_in at n m b false = omega arith

back-next : (at n : ℕ) (f : F.Field) (t : List ℕ) → Back at f → Back (at + n) (F.next_field f t n)
back-next at n F.first_line t b = omega arith
back-next at n F.outside t b = go (F.starts_field t) (blanks (drop 1 t))
  where
    go : (s z : Bool) → Back (at + n) (cond s (cond z (F.opened n) (F.inside n)) F.outside)
    go true true = omega arith
    go true false = omega arith
    go false z = omega arith
back-next at n (F.opened m) t b = back_in at n m b (F.starts_field t)
back-next at n (F.inside m) t b = back_in at n m b (F.starts_field t)

pub after_line_lem : (file : List ℕ) (c : Cursor) (to next : ℕ) (r : Range) (g : Field) → BlockAfter file c.at to c.field c.block r
    → ((f : F.Field) (n : ℕ) → Back c.at f → c.field ≡ field_at c.at f → g ≡ field_at (c.at + n) (F.next_field f (slice c.at to file) n))
    → (st : F.State) (n : ℕ) → next ≡ c.at + n → CursorOf file c st
    → CursorOf file (record { at = next; count = c.count; block = r; field = g }) (F.after_line st (slice c.at to file) n)
after_line_lem file c to next r g b h st n e k =
    record {
      count = k.count;
      block = b.named st.field k.field ∙ ap (F.next_block st.field (slice c.at to file)) k.block;
      back = subst (λ (z : ℕ). Back z (F.next_field st.field (slice c.at to file) n)) (sym e)
          (back-next c.at n st.field (slice c.at to file) k.back);
      field = h st.field n k.back k.field ∙ ap (λ (z : ℕ). field_at z (F.next_field st.field (slice c.at to file) n)) (sym e);
    }

-- ---- a section

module _ (from : ℕ) (block : Range) where
  abbrev pub with_data : Description → Result Data Stop → Result SectionRead Stop
  with_data d (Err s) = Err s
  with_data d (Ok o) =
      Ok (record {
        section = record { description = d; from = from; to = o.to; first = o.first; block = block };
        next = o.next;
      })

  abbrev pub with_headers : Result Headers Stop → (Encoding → ℕ → ℕ → Result Data Stop) → Result SectionRead Stop
  with_headers (Err s) g = Err s
  with_headers (Ok h) g = with_data h.description (g h.description.encoding h.description.size h.next)

module _ (limit : ℕ) (file : List ℕ) (from at : ℕ) (low : from ≤ at) (block : Range) (b : List ℕ) where
  abbrev pub data_from : Encoding → ℕ → ℕ → Result Data Stop
  data_from e size next = data_at next (S.data_for limit e size (drop next file))

  abbrev rest : (Description × ℕ) → List ℕ → Res S.Section
  rest dm = bind (S.data_for limit dm.0.encoding dm.0.size) (λ d. ret (S.section_of b (at - from) dm d))

  with-data : (d : Description) (n : ℕ) (q : Res S.Data) (s : List ℕ)
      → with_data from block d (data_at (at + n) q) ≡ section_read_at from at block (plus n (then q (λ x. ret (S.section_of b (at - from) (d, n) x)) s))
  with-data d n (bad k p) s =
      let e : (at + n) + p ≡ at + (n + p) = omega arith in ap (λ (z : ℕ). Err (Refused (record { number = k; place = z }))) e
  with-data d n cut s = refl
  with-data d n (ok x m) s =
      let e : (at + n) + x.lead ≡ from + ((at - from) + n + x.lead) = omega arith in
      let f : (at + n) + x.width ≡ from + ((at - from) + n + x.width) = omega arith in
      let g : (at + n) + m ≡ at + (n + (m + 0)) = omega arith in
      (λ i. Ok (record {
        section = record { description = d; from = from; to = f i; first = e i; block = block };
        next = g i;
      }))

  with-headers : (r : Res Description)
      → with_headers from block (headers_read_at at r) data_from ≡ section_read_at from at block (then (counted r) rest (drop at file))
  with-headers (bad k p) = refl
  with-headers cut = refl
  with-headers (ok d n) =
      ap (λ (s : List ℕ). with_data from block d (data_at (at + n) (S.data_for limit d.encoding d.size s))) (sym (drop-drop n at file))
      ∙ with-data d n (S.data_for limit d.encoding d.size (drop n (drop at file))) (drop n (drop at file))

  -- what the section reads, by what its headers and its data do
  pub section-read : (h : Result Headers Stop) → h ≡ headers_read_at at (D.headers limit file_limit (drop at file))
      → with_headers from block h data_from ≡ section_read_at from at block (S.section limit b (at - from) (drop at file))
  unfolding S.section
  section-read h e =
      ap (λ (y : Result Headers Stop). with_headers from block y data_from) e ∙ with-headers (D.headers limit file_limit (drop at file))

pub headers-within : (limit : ℕ) (file : List ℕ) (at : ℕ) → at ≤ length file → (h : Headers)
    → Ok h ≡ headers_read_at at (D.headers limit file_limit (drop at file)) → h.next ≤ length file
headers-within limit file at inside h = go (D.headers limit file_limit (drop at file)) refl
  where
    go : (r : Res Description) → D.headers limit file_limit (drop at file) ≡ r → Ok h ≡ headers_read_at at r → h.next ≤ length file
    go (bad k p) q e = absurd cc
    go cut q e = absurd cc
    go (ok x n) q e =
        let y : h ≡ record { description = x; next = at + n } = cc in
        let z : h.next ≡ at + n = ap (λ (u : Headers). u.next) y in
        let w = (headers-tame limit file_limit).within (drop at file) x n q in
        let l : length (drop at file) ≡ length file - at = length-drop at file in
        omega arith

-- ---- the step over a section

abbrev pub step_over : Cursor → Result SectionRead Stop → Result Stepped Stop
step_over c (Err s) = Err s
step_over c (Ok r) =
    Ok (record {
      section = Some r.section;
      cursor = record { at = r.next; count = c.count + 1; block = c.block; field = Outside };
    })

module _ (limit : ℕ) (file : List ℕ) (c : Cursor) (next : ℕ) (ready : Ready file c) (low : c.at ≤ next)
    (high : next ≤ length file) (st : F.State) (of : CursorOf file c st) where
  same_count : c.count ≡ st.count
  same_count = of.count

  over : c.count < 512 → (q : Res S.Section) (s : List ℕ) → ((i : S.Section) (m : ℕ) → q ≡ ok i m → m ≤ length (drop next file))
      → StepSays file c (plus (next - c.at) (then q (λ i. ret (Some i, F.after_section st)) s)) (step_over c (section_read_at c.at next c.block q))
  over h (bad k p) s w = let e : next + p ≡ c.at + ((next - c.at) + p) = omega arith in ap (λ (z : ℕ). Err (Refused (record { number = k; place = z }))) e
  over h cut s w = refl
  over h (ok i m) s w =
      let l : length (drop next file) ≡ length file - next = length-drop next file in
      let v = w i m refl in
      let n = same_count in (
        record { at = next + m; count = c.count + 1; block = c.block; field = Outside },
        refl,
        (
          omega arith,
          record { count = omega arith; block = of.block; back = omega arith; field = refl },
          record {
            short = ready.short;
            at_in = omega arith;
            few = omega arith;
            block_low = ready.block_low;
            block_high = ready.block_high;
            stands = (F.outside, (omega arith, refl));
          },
        ),
      )

  pub too_many : 512 ≤ c.count → StepSays file c (section_step limit st (next - c.at) (drop next file)) (Err (Refused (record { number = 4; place = c.at })))
  too_many h =
      let n = same_count in
      let e : leb 512 st.count ≡ true = le-leb 512 st.count (omega arith) in
      let z : c.at ≡ c.at + 0 = omega arith in
      subst
      (λ (b : Bool).
      StepSays file c (cond b (bad 4 0) (plus (next - c.at) (bind (S.section limit st.block (next - c.at))
      (λ i. ret (Some i, F.after_section st)) (drop next file))))
      (Err (Refused (record { number = 4; place = c.at }))))
      (sym e) (ap (λ (y : ℕ). Err (Refused (record { number = 4; place = y }))) z)

  pub section-over : c.count < 512 → (r : Result SectionRead Stop) → section_read_at c.at next c.block
      (S.section limit st.block (next - c.at) (drop next file)) ≡ r
      → StepSays file c (section_step limit st (next - c.at) (drop next file)) (step_over c r)
  section-over h r p =
      let n = same_count in
      let e : leb 512 st.count ≡ false = lt-leb 512 st.count (omega arith) in
      subst
      (λ (b : Bool).
      StepSays file c (cond b (bad 4 0) (plus (next - c.at) (bind (S.section limit st.block (next - c.at))
      (λ i. ret (Some i, F.after_section st)) (drop next file)))) (step_over c r))
      (sym e)
      (subst
      (λ (y : Result SectionRead Stop).
      StepSays file c (plus (next - c.at) (bind (S.section limit st.block (next - c.at))
      (λ i. ret (Some i, F.after_section st)) (drop next file))) (step_over c y)) p
      (over h (S.section limit st.block (next - c.at) (drop next file)) (drop next file)
      ((section-tame limit st.block (next - c.at)).within (drop next file))))

-- ---- one step

abbrev test_of : ℕ → F.Field → List ℕ → Option (ℕ × ℕ)
test_of limit F.first_line t = F.refused_first limit t
test_of limit F.outside t = refused_byte limit 0 t
test_of limit (F.opened m) t = refused_byte limit 0 t
test_of limit (F.inside m) t = refused_byte limit 0 t

step_line_lem : (limit : ℕ) (f : F.Field) (s : List ℕ) → F.step_line limit f s ≡ screen (test_of limit f) (line s)
unfolding text_line
step_line_lem limit F.first_line s = refl
step_line_lem limit F.outside s = refl
step_line_lem limit (F.opened m) s = refl
step_line_lem limit (F.inside m) s = refl

module _ (limit : ℕ) (file : List ℕ) (at : ℕ) (inside : at ≤ length file) (f : F.Field) where
  pub line-passed : (l : Line) → Ok l ≡ line_of_field at limit f (drop at file) → Passed (test_of limit f) file at l.to l.next
  line-passed l e = passed (test_of limit f) file at inside l (e ∙ ap (line_at at) (step_line_lem limit f (drop at file)))

  line-says : (l : Line) → Ok l ≡ line_of_field at limit f (drop at file) → F.step_line limit f (drop at file) ≡ ok (slice at l.to file) (l.next - at)
  line-says l e = step_line_lem limit f (drop at file) ∙ says-text (test_of limit f) file at inside l
      (e ∙ ap (line_at at) (step_line_lem limit f (drop at file)))

  line-refuses : (r : Refusal) → Err r ≡ line_of_field at limit f (drop at file)
      → (F.step_line limit f (drop at file) ≡ bad r.number (r.place - at)) × (at ≤ r.place)
  line-refuses r e =
      let q = says-refused (test_of limit f) file at inside r (e ∙ ap (line_at at) (step_line_lem limit f (drop at file))) in
      (step_line_lem limit f (drop at file) ∙ q.0, q.1)

module _ (limit : ℕ) (st : F.State) (s t : List ℕ) (n : ℕ) (l : F.step_line limit st.field s ≡ ok t n) where
  abbrev tested : Bool → Res (Option S.Section × F.State)
  tested m = then (counted (screen_or (cond m (Some (4, 0)) None) t n)) (F.after_step_line limit st) s

  by-line : F.step limit st s ≡ tested (F.is_boundary st t && leb 512 st.count)
  unfolding F.step
  by-line = ap (λ (q : Res (List ℕ)). then (counted (screen (F.one_too_many st) q)) (F.after_step_line limit st) s) l

  tested-is : (m : Bool) → tested m ≡ cond m (bad 4 0) (plus n (F.after_step_line limit st (t, n) (drop n s)))
  tested-is true = refl
  tested-is false = refl

  abbrev either : Bool → Res (Option S.Section × F.State)
  either b =
      cond (b && leb 512 st.count) (bad 4 0)
      (plus n (F.section_or b (bind (S.section limit st.block n) (λ i. ret (Some i, F.after_section st))) (ret (None, F.after_line st t n)) (drop n s)))

  step_is : (b : Bool) → b ≡ F.is_boundary st t → F.step limit st s ≡ either b
  step_is b e = by-line ∙ tested-is (F.is_boundary st t && leb 512 st.count) ∙ ap either (sym e)

module _ (limit : ℕ) (file : List ℕ) (c : Cursor) (ready : Ready file c) (st : F.State) (of : CursorOf file c st) where
  pub step-refused : (r : Refusal) → Err r ≡ line_of_field c.at limit st.field (drop c.at file)
      → StepSays file c (F.step limit st (drop c.at file)) (Err (Refused r))
  unfolding F.step
  step-refused r e =
      let q = line-refuses limit file c.at ready.at_in st.field r e in
      let v = q.1 in
      let z : r.place ≡ c.at + (r.place - c.at) = omega arith in
      subst
      (λ (y : Res (List ℕ)). StepSays file c (then (counted (screen (F.one_too_many st) y)) (F.after_step_line limit st)
      (drop c.at file)) (Err (Refused r)))
      (sym q.0) (ap (λ (y : ℕ). Err (Refused (record { number = r.number; place = y }))) z)

  module _ (l : Line) (e : Ok l ≡ line_of_field c.at limit st.field (drop c.at file)) where
    there : Passed (test_of limit st.field) file c.at l.to l.next
    there = line-passed limit file c.at ready.at_in st.field l e

    -- the line's text, as the code takes it from the file
    abbrev pub text : List ℕ
    text = take (l.to - c.at) (drop c.at file)

    text_is : slice c.at l.to file ≡ text
    text_is = let w = there in slice-part file c.at l.to w.low (let h = w.high in let i = w.within in omega arith)

    boundary_is : (b : Bool) → b ≡ (F.is_opened st.field && same text opening) → b ≡ F.is_boundary st (slice c.at l.to file)
    boundary_is b q = q ∙ ap (F.is_boundary st) (sym text_is)

    pub step-section : true ≡ (F.is_opened st.field && same text opening) → (r : Result Stepped Stop)
        → StepSays file c (section_step limit st (l.next - c.at) (drop l.next file)) r
        → StepSays file c (F.step limit st (drop c.at file)) r
    step-section b r h =
        let w = there in
        let lo = w.low in
        let hi = w.high in
        let q : c.at + (l.next - c.at) ≡ l.next = omega arith in
        let d : drop (l.next - c.at) (drop c.at file) ≡ drop l.next file = drop-drop (l.next - c.at) c.at file ∙ ap (λ (z : ℕ). drop z file) q in
        subst (λ (y : Res (Option S.Section × F.State)). StepSays file c y r)
        (ap (section_step limit st (l.next - c.at)) (sym d) ∙ sym (step_is limit st (drop c.at file) (slice c.at l.to file) (l.next - c.at)
        (line-says limit file c.at ready.at_in st.field l e) true (boundary_is true b))) h

    pub step-over-line : false ≡ (F.is_opened st.field && same text opening) → (d : Cursor)
        → CursorOf file d (F.after_line st (slice c.at l.to file) (l.next - c.at)) → d.at ≡ l.next → d.block.from ≤ d.block.to → d.block.to ≤ length file
        → StepSays file c (F.step limit st (drop c.at file)) (Ok (record { section = None; cursor = d }))
    step-over-line b d o p low high =
        let w = there in
        let lo = w.low in
        let hi = w.high in
        let i = w.within in
        let f = ready.few in
        let m : d.count ≡ c.count = o.count ∙ sym of.count in
        subst (λ (y : Res (Option S.Section × F.State)). StepSays file c y (Ok (record { section = None; cursor = d })))
        (sym (step_is limit st (drop c.at file) (slice c.at l.to file) (l.next - c.at)
        (line-says limit file c.at ready.at_in st.field l e) false (boundary_is false b))) (
          d,
          refl,
          (
            omega arith,
            o,
            record {
              short = ready.short;
              at_in = omega arith;
              few = omega arith;
              block_low = low;
              block_high = high;
              stands = (F.next_field st.field (slice c.at l.to file) (l.next - c.at), (o.back, o.field));
            },
          ),
        )

-- where the line that was read at a cursor lies
pub record LineAt (file : List ℕ) (c : Cursor) (l : Line) : Type 0 where
  pub low : c.at ≤ l.to
  pub high : l.to ≤ l.next
  pub within : l.next ≤ length file

pub line-there : (limit : ℕ) (file : List ℕ) (c : Cursor) → Ready file c → (l : Line)
    → ((f : F.Field) → Back c.at f → c.field ≡ field_at c.at f → Ok l ≡ line_of_field c.at limit f (drop c.at file)) → LineAt file c l
line-there limit file c ready l e =
    let w = ready.stands in
    let p = line-passed limit file c.at ready.at_in w.0 l (e w.0 w.1.0 w.1.1) in
    record { low = p.low; high = p.high; within = p.within }
