-- A section in house form reads back, in any place where a section was read. Assumes nothing.
use mathlib.Core.Path.{◌≡◌, refl, sym, ap, ◌∙◌}
use Rattle.std.specs.Prelude.{Option, None, Some}
use Rattle.std.proofs.lemmas.Option.{none-some}
use mathlib.Core.Bool.{Bool, true, false, cond}
use mathlib.Core.List.{List, [], ◌∷◌, ◌++◌, append_assoc}
use Prim.Native.Nat.{ℕ, suc, ◌+◌, ◌*◌, ◌≤◌, ◌<◌}
use native.Mathlib.Nat.{add-zero}
use native.Mathlib.Omega.{arith}
use lib.Dec.{ltb}
use borrow.Author.Tests.{lt-leb, lt-ltb, ltb-true}
use lib.ListN.{length, drop, length-append, length-drop}
use lib.Seq.{drop_at, drop-append-le, drop-append-add}
use Rattle.cbf_walk.specs.Parsers.{ok, Parser, ret, counted, screen_or, blame, bind}
use Rattle.cbf_walk.proofs.Choices.{Lawful}
use Rattle.cbf_walk.proofs.ParserLaws.{bind-at, counted-ok}
use Rattle.cbf_format.specs.Text.{textual}
use Rattle.cbf_format.specs.Lines.{refused_byte, text_line, line_end, exactly, literal}
use Rattle.cbf_format.specs.declared.Description.{Description}
use Rattle.cbf_format.specs.Descriptions.{headers}
use Rattle.cbf_format.specs.Sections.{opening, closing, marker, last_boundary, after_span, closed, closed_after}
use Rattle.cbf_format.specs.Sections.{binary_data, Section, section_of, section}
use Rattle.cbf_answers.specs.Limits.{file_limit}
use Rattle.cbf_format.specs.Files.{Field, first_line, outside, opened, inside, State, after_section, is_opened}
use Rattle.cbf_format.specs.Files.{step_line, after_step_line, step}
use Rattle.cbf_format.specs.House.{ended, ended_lines, house_lines, house}
use Rattle.cbf_format.proofs.LineTame.{octets-ok, word_ok}
use Rattle.cbf_format.proofs.SectionTame.{closed_with, binary_of, after_headers}
use Rattle.cbf_format.proofs.FileLaws.{line_of, Took, took}
use Rattle.cbf_format.proofs.VerdictLaws.{Known}
use Rattle.cbf_format.proofs.HouseLaws.{housed, headers-house}

-- the section that is read of house form, in place of the section i
abbrev pub housed_section : List ℕ → Section → Section
housed_section os i =
    record {
      description = housed (length os) i.description;
      octets = os;
      first = length (ended opening) + length (ended_lines (house_lines (length os) i.description)) + 2 + length marker;
      width = length (house i.description os);
      block = i.block;
    }

-- octets that fit a section
pub record Fits (d : Description) (os : List ℕ) : Type 0 where
  pub is_known : Known d
  pub low : d.elements ≤ length os
  pub high : length os ≤ 15 * d.elements
  pub small : length os ≤ file_limit

pub length-house : (d : Description) (os : List ℕ) → length (house d os) ≡ length (ended_lines (house_lines (length os) d)) + length os + 70
unfolding house
length-house d os =
    omega (
      arith,
      length-append (ended_lines (house_lines (length os) d))
          (13 ∷ 10 ∷ (marker ++ (os ++ (13 ∷ 10 ∷ closing)))),
      length-append os (13 ∷ 10 ∷ closing),
    )

-- ---- the boundary line

-- a text line that is accepted is accepted under a greater limit
pub refused_byte-more : (least limit i : ℕ) (t : List ℕ) → least ≤ limit → refused_byte least i t ≡ None → refused_byte limit i t ≡ None
refused_byte-more least limit i [] h e = refl
refused_byte-more least limit i (x ∷ t) h e = go (textual x) (ltb i least) refl e (λ e. refused_byte-more least limit (suc i) t h e)
  where
    go : (b c : Bool) → ltb i least ≡ c → cond b (cond c (refused_byte least (suc i) t) (Some (2, i))) (Some (3, i)) ≡ None
        → (refused_byte least (suc i) t ≡ None → refused_byte limit (suc i) t ≡ None)
        → cond b (cond (ltb i limit) (refused_byte limit (suc i) t) (Some (2, i))) (Some (3, i)) ≡ None
    go true true q e ih = rw (lt-ltb i limit (omega (arith, h, ltb-true i least q))) (ih e)
    go true false q e ih = absurd (none-some (2, i) (sym e))
    go false c q e ih = absurd (none-some (3, i) (sym e))

opening-line : (limit : ℕ) (f : Field) (s : List ℕ) → 48 ≤ limit → is_opened f ≡ true → step_line limit f (ended opening ++ s) ≡ ok opening 31
unfolding text_line
opening-line limit first_line s h q = let z : ◌≡◌ {A = ℕ} 0 1 = cc in absurd (omega arith)
opening-line limit outside s h q = let z : ◌≡◌ {A = ℕ} 0 1 = cc in absurd (omega arith)
opening-line limit (opened m) s h q = ap (λ (o : Option (ℕ × ℕ)). screen_or o opening 31) (refused_byte-more 48 limit 0 opening h refl)
opening-line limit (inside m) s h q = let z : ◌≡◌ {A = ℕ} 0 1 = cc in absurd (omega arith)

-- ---- what follows it

-- a parser, and what is made of its value
then-made : {A B : Type 0} (p : Parser A) (g : A → B) (s : List ℕ) {a : A} {n : ℕ} → p s ≡ ok a n → bind p (λ x. ret (g x)) s ≡ ok (g a) n
then-made p g s {a} {n} e = rw e (ap (ok (g a)) (add-zero n))

closed-house : (limit : ℕ) (q t : List ℕ) (k : ℕ) → after_span limit q ≡ ok t k → closed limit (13 ∷ 10 ∷ (closing ++ q)) ≡ ok 33 (33 + k)
unfolding closed last_boundary line_end
closed-house limit q t k e =
    bind-at (λ s. counted (last_boundary s)) (closed_with limit) (13 ∷ 10 ∷ (closing ++ q)) q 33
    (counted-ok (bind-at line_end (λ e. literal closing) (13 ∷ 10 ∷ (closing ++ q)) (closing ++ q) 2 refl refl (word_ok closing q)))
    refl
    (then-made (after_span limit) (λ e. 33) q e)

data-house : (limit : ℕ) (os q t : List ℕ) (k : ℕ) → after_span limit q ≡ ok t k
    → binary_data limit (length os) (marker ++ (os ++ (13 ∷ 10 ∷ (closing ++ q)))) ≡ ok (binary_of (length os) os 33) (4 + (length os + (33 + k)))
unfolding binary_data
data-house limit os q t k e =
    let end : List ℕ = 13 ∷ 10 ∷ (closing ++ q) in
    bind-at (λ s. blame 8 (literal marker s)) (λ m. bind (exactly (length os)) (closed_after limit (length os))) (marker ++ (os ++ end)) (os ++ end) 4
    (ap (blame 8) (word_ok marker (os ++ end)))
    refl
    (bind-at (exactly (length os)) (closed_after limit (length os)) (os ++ end) end (length os) (octets-ok os end) (drop_at os end (length os) refl)
    (then-made (λ s. blame 9 (closed limit s)) (binary_of (length os) os) end (ap (blame 9) (closed-house limit q t k e))))

-- house form after its boundary line, and what follows it
abbrev after_opening : Description → List ℕ → List ℕ → List ℕ
after_opening d os q = ended_lines (house_lines (length os) d) ++ (13 ∷ 10 ∷ (marker ++ (os ++ (13 ∷ 10 ∷ (closing ++ q)))))

section-house : (limit : ℕ) (block : List ℕ) (d : Description) (os q t : List ℕ) (k : ℕ) → 48 ≤ limit → Fits d os → after_span limit q ≡ ok t k
    → section limit block 31 (after_opening d os q)
    ≡ ok (section_of block 31 (housed (length os) d, length (ended_lines (house_lines (length os) d)) + 2) (binary_of (length os) os 33))
    (length (ended_lines (house_lines (length os) d)) + 2 + (4 + (length os + (33 + k))))
unfolding section
section-house limit block d os q t k l f e =
    let n = length os in
    let head = ended_lines (house_lines n d) in
    let r : List ℕ = marker ++ (os ++ (13 ∷ 10 ∷ (closing ++ q))) in
    bind-at (λ s. counted (headers limit file_limit s)) (after_headers limit block 31) (after_opening d os q) r (length head + 2)
    (counted-ok (headers-house limit n d r l f.is_known f.small f.low f.high))
    (drop-append-add head (13 ∷ 10 ∷ r) 2)
    (then-made (binary_data limit n) (section_of block 31 (housed n d, length head + 2)) r (data-house limit os q t k e))

-- ---- the step

house-then : (d : Description) (os q : List ℕ) → house d os ++ q ≡ ended opening ++ after_opening d os q
unfolding house
house-then d os q =
    let head = ended_lines (house_lines (length os) d) in
    ap (λ (z : List ℕ). ended opening ++ z)
    (append_assoc head (13 ∷ 10 ∷ (marker ++ (os ++ (13 ∷ 10 ∷ closing)))) q
    ∙ ap (λ (z : List ℕ). head ++ (13 ∷ 10 ∷ (marker ++ z))) (append_assoc os (13 ∷ 10 ∷ closing) q))

step-house : (limit : ℕ) (st : State) (os q t : List ℕ) (k : ℕ) (i : Section) → 48 ≤ limit → Fits i.description os
    → is_opened st.field ≡ true → st.count < 512
    → i.block ≡ st.block → after_span limit q ≡ ok t k
    → step limit st (house i.description os ++ q) ≡ ok (Some (housed_section os i), after_section st) (length (house i.description os) + k)
unfolding step
step-house limit st os q t k i l f is_open room name e =
    let d = i.description in
    let u = length (ended_lines (house_lines (length os) d)) in
    let s = after_opening d os q in
    let top : line_of limit st (ended opening ++ s) ≡ ok (opening, 31) 31 =
    rw (opening-line limit st.field s l is_open) (rw (is_open, lt-leb 512 st.count room)) in
    let lead : 31 + (u + 2) + 4 ≡ 31 + u + 2 + 4 = omega arith in
    let wide : 31 + (u + 2) + (4 + length os + 33) ≡ length (house d os) = omega (arith, length-house d os) in
    let total : 31 + (u + 2 + (4 + (length os + (33 + k)))) ≡ length (house d os) + k = omega (arith, length-house d os) in
    ap (step limit st) (house-then d os q)
    ∙ bind-at (line_of limit st) (after_step_line limit st) (ended opening ++ s) s 31 top refl
    (rw is_open (then-made (section limit st.block 31) (λ j. (Some j, after_section st)) s (section-house limit st.block d os q t k l f e)))
    ∙ (λ j. ok (
      Some (record {
        description = housed (length os) d;
        octets = os;
        first = lead j;
        width = wide j;
        block
            = sym name j;
      }),
      after_section st,
    ) (total j))

-- BINARY or BASE64 before, the span is exchanged for house form
pub house-lawful : (limit : ℕ) (os : List ℕ) (i : Section) → 48 ≤ limit → Fits i.description os
    → Lawful (step limit) (λ (j : Section). j.width) i (house i.description os, housed_section os i)
unfolding house
house-lawful limit os i l f = record {
  reads = λ st t b r e. reads st t b r (took limit st t (b ++ r) i (length b) e);
  some_byte = omega (arith, length-house i.description os);
  same_byte = λ st t b r q e. sym (took limit st t (b ++ r) i (length b) e).starts;
}
  where
    reads : (st t : State) (b r : List ℕ) → Took limit st t (b ++ r) i (length b)
        → step limit st ((house i.description os ++ drop i.width b) ++ r) ≡ ok (Some (housed_section os i), t)
        (length (house i.description os ++ drop i.width b))
    reads st t b r u =
        let new = house i.description os in
        let end = drop i.width b in
        let wide : i.width ≤ length b = omega (arith, u.closes.sum) in
        let len : u.closes.rest ≡ length end = omega (arith, length-drop i.width b, u.closes.sum) in
        let e : after_span limit (end ++ r) ≡ ok u.closes.tail (length end) =
        ap (after_span limit) (sym (drop-append-le i.width b r wide)) ∙ u.closes.closes ∙ ap (λ (k : ℕ). ok u.closes.tail k) len in
        ap (step limit st) (append_assoc new end r)
        ∙ step-house limit st os (end ++ r) u.closes.tail (length end) i l f u.is_opened u.has_room u.name e
        ∙ (λ j. ok (Some (housed_section os i), sym u.after j) (sym (length-append new end) j))
