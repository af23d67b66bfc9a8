-- Lines of the file: a text line by the run of text bytes that it starts with, a header line by its name. Assumes
-- nothing.
use mathlib.Core.Path.{◌≡◌, refl, sym, ap, ◌∙◌, subst}
use Rattle.std.specs.Prelude.{Option, None, Some, Result, Ok, Err}
use mathlib.Core.Bool.{Bool, true, false, cond, not}
use mathlib.Core.List.{List, [], ◌∷◌, ◌++◌, append-nil}
use Prim.Native.Nat.{ℕ, suc, ◌+◌, ◌-◌, ◌≤◌, ◌<◌}
use native.Mathlib.Omega.{arith}
use native.Mathlib.Numerals.{add-one}
use borrow.Author.Tests.{lt-ltb, le-ltb, ne_eqb, ltb-true, ltb-false}
use lib.Dec.{ltb, eqb}
use lib.ListN.{length, take, drop, get_or, length-drop, drop_of_length-le}
use lib.Seq.{slice, slice_empty, slice-cons, length-slice, drop-cons}
use Rattle.cbf_walk.specs.Parsers.{Res, bad, ok, hd, screen, screen_or}
use Rattle.cbf_format.specs.Text.{blank, textual}
use Rattle.cbf_format.specs.Lines.{line, add_byte, end_length, refused_byte, text_line}
use Rattle.cbf_format.specs.Headers.{name_byte, split_colon, add_name, some_name, malformed, or_malformed, header_line}
use Rattle.cbf_lines.specs.Text.{Run}
use Rattle.cbf_lines.specs.Line.{farthest_from, line_at}
use Rattle.cbf_answers.specs.declared.Refusal.{Refusal}
use Rattle.cbf_lines.specs.declared.line.Line.{Line}
use Rattle.cbf_format.proofs.Slices.{slice-take, slice-part}
use Rattle.cbf_lines.proofs.TextLaws.{by-run, run-tail}

-- ---- the answers, by their numbers

abbrev pub text_to : ℕ → ℕ → Result Line Refusal
text_to to next = Ok (record { to = to; next = next })

abbrev pub refused_at : ℕ → ℕ → Result Line Refusal
refused_at number place = Err (record { number = number; place = place })

-- ---- where a scan may end

pub record Far (at limit len r : ℕ) : Type 0 where
  pub low : at ≤ r
  pub high : r ≤ len
  pub near : r ≤ at + limit
  pub limits : r < len → at + limit ≤ r

pub far : (at limit len r : ℕ) → r ≡ farthest_from at limit len → at ≤ len → Far at limit len r
far at limit len r e h = go (ltb limit (len - at)) refl e
  where
    go : (t : Bool) → ltb limit (len - at) ≡ t → r ≡ cond t (at + limit) len → Far at limit len r
    go true p q = let l = ltb-true limit (len - at) p in record { low = omega arith; high = omega arith; near = omega arith; limits = λ k. omega arith }
    go false p q = let l = ltb-false limit (len - at) p in record {
      low = omega arith;
      high = omega arith;
      near =
          omega arith;
      limits = λ k. absurd (omega arith);
    }

-- text bytes were passed from `at` up to r: to the file's end, to a byte that is no text byte, or as far as the limit
-- lets
pub record Scan (limit : ℕ) (file : List ℕ) (at r : ℕ) : Type 0 where
  pub run : Run textual file at r r
  pub high : r ≤ length file
  pub near : r ≤ at + limit
  pub limits : r < length file → textual (get_or file r 0) ≡ true → at + limit ≤ r

pub scan : (limit : ℕ) (file : List ℕ) (at to r : ℕ) → to ≡ farthest_from at limit (length file) → at ≤ length file
    → Run textual file at to r → Scan limit file at r
scan limit file at to r e inside run =
    let f = far at limit (length file) to e inside in
    let hi = run.high in
    record {
      run = record { low = run.low; high = omega arith; each = run.each; stops = λ h. absurd (omega arith) };
      high = omega arith;
      near = omega arith;
      limits = λ h p. go f h p (ltb r to) refl;
    }
  where
    go : Far at limit (length file) to → r < length file → textual (get_or file r 0) ≡ true → (t : Bool) → ltb r to ≡ t → at + limit ≤ r
    go f h p true q = let z : true ≡ false = sym p ∙ run.stops (ltb-true r to q) in let w : ◌≡◌ {A = ℕ} 0 1 = cc in absurd (omega arith)
    go f h p false q = let hi = run.high in let l = ltb-false r to q in let b = f.limits (omega arith) in omega arith

-- ---- line ends

-- a text byte ends no line
pub textual-inside : (x : ℕ) → textual x ≡ true → (eqb x 10 ≡ false) × (eqb x 13 ≡ false)
textual-inside x e = (go 10 refl, go 13 refl)
  where
    go : (c : ℕ) → textual c ≡ false → eqb x c ≡ false
    go c f = ne_eqb x c (λ q. let z : true ≡ false = sym e ∙ ap textual q ∙ f in let w : ◌≡◌ {A = ℕ} 0 1 = cc in absurd (omega arith))

module _ (file : List ℕ) (i : ℕ) where
  pub line-end : length file ≤ i → line (drop i file) ≡ ok [] 0
  line-end h = ap line (drop_of_length-le file h)

  module _ (h : i < length file) where
    pub line-10 : get_or file i 0 ≡ 10 → line (drop i file) ≡ ok [] 1
    line-10 e = ap line (drop-cons file i 0 h) ∙ rw e

    pub line-13 : get_or file i 0 ≡ 13 → line (drop i file) ≡ ok [] (end_length (hd (drop (i + 1) file)))
    line-13 e = ap line (drop-cons file i 0 h) ∙ rw (e, add-one)

-- every line can be read: its text is the first bytes, and it ends in the file
pub record Good (s t : List ℕ) (n : ℕ) : Type 0 where
  pub reads : line s ≡ ok t n
  pub front : take (length t) s ≡ t
  pub short : length t ≤ n
  pub within : n ≤ length s

pub line-good : (s : List ℕ) → (t : List ℕ) × (n : ℕ) × Good s t n
line-good [] = ([], 0, record { reads = refl; front = refl; short = omega arith; within = omega arith })
line-good (x ∷ s) = go (eqb x 10) (eqb x 13) refl refl (line-good s)
  where
    ended : (l : List ℕ) → end_length (hd l) ≤ suc (length l)
    ended [] = omega arith
    ended (y ∷ l) = two (eqb y 10)
      where
        two : (t : Bool) → cond t 2 1 ≤ suc (suc (length l))
        two true = omega arith
        two false = omega arith

    go : (p q : Bool) → eqb x 10 ≡ p → eqb x 13 ≡ q → ((t : List ℕ) × (n : ℕ) × Good s t n) → (t : List ℕ) × (n : ℕ) × Good (x ∷ s) t n
    go true q e f g = ([], 1, record { reads = rw e; front = refl; short = omega arith; within = omega arith })
    go false true e f g = ([], end_length (hd s), record { reads = rw (e, f); front = refl; short = omega arith; within = ended s })
    go false false e f (t, n, g) = (
      x ∷ t,
      suc n,
      record {
        reads = rw (e, f) (ap (add_byte x) g.reads);
        front = ap (λ (l : List ℕ). x ∷ l)
            g.front;
        short = let h = g.short in omega arith;
        within = let h = g.within in omega arith;
      },
    )

-- ---- a line that starts with a run of bytes that end no line, from `at` up to r

module _ (file : List ℕ) {test : ℕ → Bool} {at to r : ℕ} (run : Run test file at to r) (fits : to ≤ length file) where
  pub line-run : ((x : ℕ) → test x ≡ true → (eqb x 10 ≡ false) × (eqb x 13 ≡ false)) → (t : List ℕ) (n : ℕ) → line (drop r file) ≡ ok t n
      → line (drop at file) ≡ ok (slice at r file ++ t) (r - at + n)
  line-run inside t n e = by-run (λ (j : ℕ). line (drop j file) ≡ ok (slice j r file ++ t) (r - j + n)) run step base
    where
      step : (j : ℕ) → at ≤ j → j < r → test (get_or file j 0) ≡ true
          → line (drop (suc j) file) ≡ ok (slice (suc j) r file ++ t) (r - suc j + n) → line (drop j file) ≡ ok (slice j r file ++ t) (r - j + n)
      step j h k p ih =
          let hi = run.high in
          let b = get_or file j 0 in
          let w = inside b p in
          let m : suc (r - suc j + n) ≡ r - j + n = omega arith in
          let s : b ∷ slice (suc j) r file ≡ slice j r file = sym (slice-cons j r file 0 k (omega arith)) in
          ap line (drop-cons file j 0 (omega arith)) ∙ rw (w.0, w.1) (ap (add_byte b) ih ∙ (λ i. ok (s i ++ t) (m i)))

      base : line (drop r file) ≡ ok (slice r r file ++ t) (r - r + n)
      base = let m : n ≡ r - r + n = omega arith in e ∙ (λ i. ok (sym (slice_empty r file) i ++ t) (m i))

  -- a refusal, byte by byte, passes the bytes of the run
  pub refused-run : (limit : ℕ) → r ≤ at + limit → (refused : ℕ → List ℕ → Option (ℕ × ℕ))
      → ((i x : ℕ) (t : List ℕ) → test x ≡ true → i < limit → refused i (x ∷ t) ≡ refused (suc i) t)
      → (t : List ℕ) → refused 0 (slice at r file ++ t) ≡ refused (r - at) t
  refused-run limit near refused pass t =
      let z : 0 ≡ at - at = omega arith in
      ap (λ (k : ℕ). refused k (slice at r file ++ t)) z ∙ by-run (λ (j : ℕ). refused (j - at) (slice j r file ++ t) ≡ refused (r - at) t) run step base
    where
      step : (j : ℕ) → at ≤ j → j < r → test (get_or file j 0) ≡ true
          → refused (suc j - at) (slice (suc j) r file ++ t) ≡ refused (r - at) t → refused (j - at) (slice j r file ++ t) ≡ refused (r - at) t
      step j h k p ih =
          let hi = run.high in
          let m : suc (j - at) ≡ suc j - at = omega arith in
          ap (λ (l : List ℕ). refused (j - at) (l ++ t)) (slice-cons j r file 0 k (omega arith))
          ∙ pass (j - at) (get_or file j 0) (slice (suc j) r file ++ t) p (omega arith)
          ∙ ap (λ (c : ℕ). refused c (slice (suc j) r file ++ t)) m
          ∙ ih

      base : refused (r - at) (slice r r file ++ t) ≡ refused (r - at) t
      base = ap (λ (l : List ℕ). refused (r - at) (l ++ t)) (slice_empty r file)

-- ---- a text line that starts with a run of text bytes from `at` up to r

module _ (limit : ℕ) (file : List ℕ) {at r : ℕ} (s : Scan limit file at r) where
  module _ (t : List ℕ) (n : ℕ) (e : line (drop r file) ≡ ok t n) where
    text-run : text_line limit (drop at file) ≡ screen_or (refused_byte limit (r - at) t) (slice at r file ++ t) (r - at + n)
    unfolding text_line
    text-run =
        ap (screen (refused_byte limit 0)) (line-run file s.run s.high textual-inside t n e)
        ∙ ap (λ (o : Option (ℕ × ℕ)). screen_or o (slice at r file ++ t) (r - at + n)) (refused-run file s.run
        s.high limit s.near (refused_byte limit) (λ i x t p h. rw (p, lt-ltb i limit h)) t)

    pub run-refused : (k : ℕ) → refused_byte limit (r - at) t ≡ Some (k, r - at)
        → refused_at k r ≡ line_at at (text_line limit (drop at file))
    run-refused k f =
        let lo = s.run.low in
        let q : at + (r - at) ≡ r = omega arith in
        sym (ap (line_at at) (text-run ∙ ap (λ (o : Option (ℕ × ℕ)). screen_or o (slice at r file ++ t) (r - at + n)) f)
        ∙ ap (λ (p : ℕ). refused_at k p) q)

  -- the line ends where the run ends
  pub run-line : (n next : ℕ) → next ≡ r + n → line (drop r file) ≡ ok [] n → text_to r next ≡ line_at at (text_line limit (drop at file))
  run-line n next m e =
      let lo = s.run.low in
      let hi = s.high in
      let p : at + length (slice at r file ++ []) ≡ r = omega (arith, ap length (append-nil (slice at r file)), length-slice at r file (omega arith)) in
      let q : at + (r - at + n) ≡ next = omega arith in
      sym (ap (line_at at) (text-run [] n e) ∙ (λ i. text_to (p i) (q i)))

  -- the byte where the run ends is refused
  module _ (h : r < length file) (n10 : get_or file r 0 ≡ 10 → ⊥) (n13 : get_or file r 0 ≡ 13 → ⊥) where
    more : (t : List ℕ) (n : ℕ) → line (drop (suc r) file) ≡ ok t n → line (drop r file) ≡ ok (get_or file r 0 ∷ t) (suc n)
    more t n e = let b = get_or file r 0 in ap line (drop-cons file r 0 h) ∙ rw (ne_eqb b 10 n10, ne_eqb b 13 n13) (ap (add_byte b) e)

    pub run-2 : textual (get_or file r 0) ≡ true → refused_at 2 r ≡ line_at at (text_line limit (drop at file))
    run-2 e =
        let l = s.limits h e in
        let g = line-good (drop (suc r) file) in
        run-refused (get_or file r 0 ∷ g.0) (suc g.1) (more g.0 g.1 g.2.reads) 2 (rw (e, le-ltb (r - at) limit (omega arith)))

    pub run-3 : textual (get_or file r 0) ≡ false → refused_at 3 r ≡ line_at at (text_line limit (drop at file))
    run-3 e =
        let g = line-good (drop (suc r) file) in
        run-refused (get_or file r 0 ∷ g.0) (suc g.1) (more g.0 g.1 g.2.reads) 3 (rw e)

-- ---- what an answer says to the functions that go on from it: the line was read, and its text passed the test

pub record Passed (test : List ℕ → Option (ℕ × ℕ)) (file : List ℕ) (at to next : ℕ) : Type 0 where
  pub low : at ≤ to
  pub high : to ≤ next
  pub within : next ≤ length file
  pub reads : line (drop at file) ≡ ok (slice at to file) (next - at)
  pub accepted : test (slice at to file) ≡ None

-- by whether the text passes the test
by-test : (test : List ℕ → Option (ℕ × ℕ)) (s : List ℕ) (P : Res (List ℕ) → Type 0)
    → ((t : List ℕ) (n : ℕ) → Good s t n → test t ≡ None → P (ok t n))
    → ((t : List ℕ) (n : ℕ) → Good s t n → (k p : ℕ) → test t ≡ Some (k, p) → P (bad k p)) → P (screen test (line s))
by-test test s P good refused = let g = line-good s in subst P (ap (screen test) (sym g.2.reads)) (go g.0 g.1 g.2 (test g.0) refl)
  where
    go : (t : List ℕ) (n : ℕ) → Good s t n → (o : Option (ℕ × ℕ)) → test t ≡ o → P (screen_or (test t) t n)
    go t n g None f = rw f (good t n g f)
    go t n g (Some r) f = rw f (refused t n g r.0 r.1 f)

module _ (test : List ℕ → Option (ℕ × ℕ)) (file : List ℕ) (at : ℕ) (inside : at ≤ length file) where
  pub passed : (l : Line) → Ok l ≡ line_at at (screen test (line (drop at file))) → Passed test file at l.to l.next
  passed l =
      by-test test (drop at file) (λ (r : Res (List ℕ)). Ok l ≡ line_at at r → Passed test file at l.to l.next) good
      (λ t n g k p f q. let z : ◌≡◌ {A = ℕ} 0 1 = cc in absurd (omega arith))
    where
      end_of : Result Line Refusal → ℕ
      end_of (Ok m) = m.to
      end_of (Err r) = 0

      next_of : Result Line Refusal → ℕ
      next_of (Ok m) = m.next
      next_of (Err r) = 0

      good : (t : List ℕ) (n : ℕ) → Good (drop at file) t n → test t ≡ None → Ok l ≡ text_to (at + length t) (at + n)
          → Passed test file at l.to l.next
      good t n g f q =
          let p : l.to ≡ at + length t = ap end_of q in
          let m : l.next ≡ at + n = ap next_of q in
          let s : slice at l.to file ≡ t = ap (λ (k : ℕ). slice at k file) p ∙ slice-take file at (length t) inside ∙ g.front in
          let w : n ≡ l.next - at = omega arith in
          record {
            low = omega arith;
            high = let h = g.short in omega arith;
            within = let h = g.within in omega (arith, length-drop at file);
            reads = g.reads ∙ (λ i. ok (sym s i) (w i));
            accepted = ap test s ∙ f;
          }

  pub says-text : (l : Line) → Ok l ≡ line_at at (screen test (line (drop at file)))
      → screen test (line (drop at file)) ≡ ok (slice at l.to file) (l.next - at)
  says-text l e =
      let p = passed l e in
      ap (screen test) p.reads ∙ ap (λ (o : Option (ℕ × ℕ)). screen_or o (slice at l.to file) (l.next - at)) p.accepted

  pub says-refused : (r : Refusal) → Err r ≡ line_at at (screen test (line (drop at file)))
      → (screen test (line (drop at file)) ≡ bad r.number (r.place - at)) × (at ≤ r.place)
  says-refused r =
      by-test test (drop at file)
      (λ (s : Res (List ℕ)). Err r ≡ line_at at s → (s ≡ bad r.number (r.place - at)) × (at ≤ r.place))
      (λ t n g f q. let z : ◌≡◌ {A = ℕ} 0 1 = cc in absurd (omega arith)) (λ t n g j m f q. refused j m q)
    where
      number : Result Line Refusal → ℕ
      number (Err s) = s.number
      number (Ok m) = 0

      place : Result Line Refusal → ℕ
      place (Err s) = s.place
      place (Ok m) = 0

      refused : (j m : ℕ) → Err r ≡ refused_at j (at + m)
          → (◌≡◌ {A = Res (List ℕ)} (bad j m) (bad r.number (r.place - at))) × (at ≤ r.place)
      refused j m q =
          let x : r.number ≡ j = ap number q in
          let y : r.place ≡ at + m = ap place q in
          let w : m ≡ r.place - at = omega arith in
          ((λ i. bad (sym x i) (w i)), omega arith)

module _ (limit : ℕ) (file : List ℕ) (at : ℕ) (inside : at ≤ length file) where
  pub text-passed : (l : Line) → Ok l ≡ line_at at (text_line limit (drop at file)) → Passed (refused_byte limit 0) file at l.to l.next
  unfolding text_line
  text-passed = passed (refused_byte limit 0) file at inside

  module _ (first : Bool) where
    -- a line that is refused as text is refused so as a header line
    pub header_refused : (r : Refusal) → Err r ≡ line_at at (text_line limit (drop at file))
        → Err r ≡ line_at at (header_line limit first (drop at file))
    unfolding text_line header_line
    header_refused r =
        by-test (refused_byte limit 0) (drop at file)
        (λ (s : Res (List ℕ)). Err r ≡ line_at at s → Err r ≡ line_at at (header_line limit first (drop at file)))
        (λ t n g f q. let z : ◌≡◌ {A = ℕ} 0 1 = cc in absurd (omega arith)) (λ t n g j m f q. q ∙ sym (rw (g.reads, f)))

    module _ {to next : ℕ} (l : Passed (refused_byte limit 0) file at to next) where
      header-line : (b : Bool) → malformed first (slice at to file) ≡ b → header_line limit first (drop at file)
          ≡ screen_or (or_malformed None b) (slice at to file) (next - at)
      unfolding header_line
      header-line b e =
          ap (screen (λ (t : List ℕ). or_malformed (refused_byte limit 0 t) (malformed first t))) l.reads
          ∙ (λ i. screen_or (or_malformed (l.accepted i) (e i)) (slice at to file) (next - at))

      part : slice at to file ≡ take (to - at) (drop at file)
      part = slice-part file at to l.low (let hi = l.high in let wi = l.within in omega arith)

      pub header-malformed : malformed first (take (to - at) (drop at file)) ≡ true
          → refused_at 5 at ≡ line_at at (header_line limit first (drop at file))
      header-malformed e =
          let z : at + 0 ≡ at = omega arith in
          sym (ap (line_at at) (header-line true (ap (malformed first) part ∙ e)) ∙ ap (λ (p : ℕ). refused_at 5 p) z)

      pub header-text : malformed first (take (to - at) (drop at file)) ≡ false
          → text_to to next ≡ line_at at (header_line limit first (drop at file))
      header-text e =
          let lo = l.low in
          let hi = l.high in
          let wi = l.within in
          let p : at + length (slice at to file) ≡ to = omega (arith, length-slice at to file (omega arith)) in
          let q : at + (next - at) ≡ next = omega arith in
          sym (ap (line_at at) (header-line false (ap (malformed first) part ∙ e)) ∙ (λ i. text_to (p i) (q i)))

-- ---- the name of a header

-- whether a colon was found
abbrev found : Option (List ℕ × List ℕ) → Bool
found None = false
found (Some nv) = true

found_add : (x : ℕ) (o : Option (List ℕ × List ℕ)) → found (add_name x o) ≡ found o
found_add x None = refl
found_add x (Some nv) = refl

named-add : (x : ℕ) (o : Option (List ℕ × List ℕ)) → some_name (add_name x o) ≡ found o
named-add x None = refl
named-add x (Some nv) = refl

no-colon : (x : ℕ) → name_byte x ≡ true → eqb x 58 ≡ false
no-colon x e = ne_eqb x 58 (λ q. let z : true ≡ false = sym e ∙ ap name_byte q in let w : ◌≡◌ {A = ℕ} 0 1 = cc in absurd (omega arith))

module _ (text : List ℕ) {from r : ℕ} (run : Run name_byte text from (length text) r) where
  at_name : (j : ℕ) → j < r → name_byte (get_or text j 0) ≡ true → split_colon (drop j text) ≡ add_name (get_or text j 0) (split_colon (drop (suc j) text))
  at_name j h e = let hi = run.high in ap split_colon (drop-cons text j 0 (omega arith)) ∙ rw (no-colon (get_or text j 0) e, e)

  found-run : found (split_colon (drop from text)) ≡ found (split_colon (drop r text))
  found-run =
      by-run (λ (j : ℕ). found (split_colon (drop j text)) ≡ found (split_colon (drop r text))) run
      (λ j h k e ih. ap found (at_name j k e) ∙ found_add (get_or text j 0) (split_colon (drop (suc j) text)) ∙ ih) refl

  -- at the stop: a colon, or none
  found-colon : r < length text → found (split_colon (drop r text)) ≡ eqb (get_or text r 0) 58
  found-colon h = ap (λ (l : List ℕ). found (split_colon l)) (drop-cons text r 0 h) ∙ rw (run.stops h) (go (eqb (get_or text r 0) 58))
    where
      go : (t : Bool) → found (cond t (Some ([], drop (suc r) text)) None) ≡ t
      go true = refl
      go false = refl

-- a text that is not empty
module _ (text : List ℕ) (first : Bool) (some_byte : 0 < length text) where
  module _ (plain : blank (get_or text 0 0) ≡ false) {r : ℕ} (run : Run name_byte text 0 (length text) r) where
    by_name : malformed first text ≡ not (some_name (split_colon text))
    by_name = let s = drop-cons text 0 0 some_byte in ap (malformed first) s
        ∙ rw plain (ap (λ (l : List ℕ). not (some_name (split_colon l))) (sym s))

    pub malformed-no-name : r ≡ 0 → true ≡ malformed first text
    malformed-no-name e = sym (by_name ∙ ap (λ (l : List ℕ). not (some_name (split_colon l))) (drop-cons text 0 0 some_byte)
        ∙ rw (ap (λ (k : ℕ). name_byte (get_or text k 0)) (sym e) ∙ run.stops (omega arith)) (go (eqb (get_or text 0 0) 58)))
      where
        go : (t : Bool) → not (some_name (cond t (Some ([], drop 1 text)) None)) ≡ true
        go true = refl
        go false = refl

    module _ (some-name : (r ≡ 0) → ⊥) where
      colon-after : malformed first text ≡ not (found (split_colon (drop r text)))
      colon-after =
          let h : 0 < r = omega (arith, some-name) in
          by_name
          ∙ ap (λ (o : Option (List ℕ × List ℕ)). not (some_name o)) (at_name text run 0 h (run.each 0 (omega arith) h))
          ∙ ap not (named-add (get_or text 0 0) (split_colon (drop 1 text)) ∙ found-run text (run-tail run h))

      pub malformed-no-colon : r ≡ length text → true ≡ malformed first text
      malformed-no-colon e = sym (colon-after ∙ ap (λ (l : List ℕ). not (found (split_colon l))) (drop_of_length-le text {i = r} (omega arith)))

      pub malformed-at : r < length text → not (eqb (get_or text r 0) 58) ≡ malformed first text
      malformed-at h = sym (colon-after ∙ ap not (found-colon text run h))

-- ---- the line end at a place

pub end-moves : (o : Option ℕ) → 0 < end_length o
end-moves None = omega arith
end-moves (Some y) = go (eqb y 10)
  where
    go : (t : Bool) → 0 < cond t 2 1
    go true = omega arith
    go false = omega arith
