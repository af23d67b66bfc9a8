-- The lines of a BASE64 text: what each does to what is left, with the symbols so far. Assumes nothing.
use mathlib.Core.Path.{◌≡◌, refl, sym, ap, ◌∙◌, subst}
use Rattle.std.specs.Prelude.{Option, None, Some, Result, Ok, Err}
use mathlib.Core.Bool.{Bool, true, false, ◌&&◌, ◌||◌, cond, not}
use mathlib.Core.List.{List, [], ◌∷◌, ◌++◌, append-nil}
use Prim.Native.Nat.{ℕ, zero, suc, ◌+◌, ◌-◌, ◌≤◌, ◌<◌}
use native.Mathlib.Omega.{arith}
use borrow.Author.Tests.{le-leb, leb-true, lt-ltb, ltb-true, ltb-false, eqb-true, eqb-false}
use lib.Dec.{leb, ltb, eqb}
use lib.ListN.{length, take, drop, get_or, length-drop, drop_of_length-le}
use lib.Seq.{slice, drop-cons, drop-drop}
use Rattle.cbf_walk.specs.Parsers.{Res, bad, cut, ok, Parser, ret, plus, counted, screen_or, screen, onward, then}
use Rattle.cbf_walk.proofs.ParserLaws.{cut≢ok, ok-val, unbind, unscreen}
use Rattle.cbf_format.specs.declared.Symbol.{Symbol}
use Rattle.cbf_format.specs.declared.Symbol.TheVariants.{Blank, Other}
use Rattle.cbf_format.specs.Text.{blank, textual, same}
use Rattle.cbf_format.specs.Lines.{line}
use Rattle.cbf_format.specs.Base64.{symbol, is_other, refused_symbol, Letters, add_symbols, refused_text, more_text}
use Rattle.cbf_format.specs.Base64.{letters}
use Rattle.cbf_format.specs.Sections.{closing}
use Rattle.cbf_answers.specs.Limits.{file_limit}
use Rattle.cbf_format.proofs.LineTame.{same-eq, line-pos, line-tame}
use Rattle.cbf_format.proofs.Base64Laws.{Plains, no_symbol, plain-bytes}
use Rattle.cbf_answers.specs.declared.Refusal.{Refusal}
use Rattle.cbf_lines.specs.Text.{Run}
use Rattle.cbf_lines.specs.Closing.{ended_at}
use Rattle.cbf_base64.specs.Base64.{groups_from, groups_of, bytes_from, symbolic}
use Rattle.cbf_base64.specs.Base64Text.{closing_at, refused_number, base64_line_at, letters_at}
use Rattle.cbf_base64.specs.declared.base64.Groups.{Groups}
use Rattle.cbf_base64.specs.declared.base64_text.Base64Line.{Base64Line}
use Rattle.cbf_base64.specs.declared.base64_text.Base64Line.TheVariants.{Closing, Text}
use Rattle.cbf_base64.specs.declared.base64_text.Base64Text.{Base64Text}
use Rattle.cbf_format.proofs.Slices.{slice-part}
use Rattle.cbf_lines.proofs.TextLaws.{same-lengths}
use Rattle.cbf_base64.proofs.Base64Laws.{groups-bytes}
use Rattle.cbf_lines.proofs.LineLaws.{Far, Good, line-good, textual-inside, line-run, refused-run}
use Rattle.cbf_lines.proofs.ClosingLaws.{and_both, ahead, line-ahead, blank-textual, slice-then, ended_at_lem, ended-not}
use Rattle.cbf_format.specs.declared.Stop.{Stop}
use Rattle.cbf_format.specs.declared.Stop.TheVariants.{Refused, CutOff}

-- ---- the closing boundary's line

module _ (file : List ℕ) (at : ℕ) (inside : at ≤ length file) where
  -- where the first bytes are not the boundary's, the line is not
  not-closing : (length closing ≤ length file - at → same (take (length closing) (drop at file)) closing ≡ false) → None ≡ closing_at at (line (drop at file))
  not-closing h = let g = line-good (drop at file) in go g.0 g.1 g.2 (eqb (length g.0) (length closing)) refl
    where
      other : (t : List ℕ) (n : ℕ) → line (drop at file) ≡ ok t n → same t closing ≡ false → None ≡ closing_at at (line (drop at file))
      other t n e f = sym (ap (closing_at at) e ∙ ap (λ (b : Bool). cond b (Some (at + n)) None) f)

      go : (t : List ℕ) (n : ℕ) → Good (drop at file) t n → (b : Bool) → eqb (length t) (length closing) ≡ b → None ≡ closing_at at (line (drop at file))
      go t n g false p = other t n g.reads (same-lengths t closing (eqb-false (length t) (length closing) p))
      go t n g true p =
          let l : length t ≡ length closing = eqb-true (length t) (length closing) p in
          let k = g.short in
          let w = g.within in
          let s : take (length closing) (drop at file) ≡ t = ap (λ (j : ℕ). take j (drop at file)) (sym l) ∙ g.front in
          other t n g.reads (ap (λ (u : List ℕ). same u closing) (sym s) ∙ h (omega (arith, length-drop at file)))

  pub closing-short : length file - at < length closing → None ≡ closing_at at (line (drop at file))
  closing-short h = not-closing (λ k. absurd (omega arith))

  module _ (to : ℕ) (z : to ≡ at + length closing) where
    pub closing-other : same (take (to - at) (drop at file)) closing ≡ false → None ≡ closing_at at (line (drop at file))
    closing-other e =
        let w : length closing ≡ to - at = omega arith in
        not-closing (λ k. ap (λ (j : ℕ). same (take j (drop at file)) closing) w ∙ e)

    -- after the boundary the line must end
    pub closing-ended : to ≤ length file → same (take (to - at) (drop at file)) closing ≡ true
        → (r : Option ℕ) → r ≡ ended_at to (drop to file) → r ≡ closing_at at (line (drop at file))
    closing-ended h e r q = go r q
      where
        part : slice at to file ≡ closing
        part = slice-part file at to (omega arith) h ∙ same-eq (take (to - at) (drop at file)) closing e

        front : closing ++ drop to file ≡ drop at file
        front = ap (λ (l : List ℕ). l ++ drop to file) (sym part) ∙ slice-then file at to (omega arith) h

        with-text : (s t : List ℕ) (n : ℕ) → line s ≡ ok t n → closing_at at (line (closing ++ s)) ≡ cond (same t []) (Some (at + (length closing + n))) None
        with-text s t n e = ap (closing_at at) (line-ahead closing s refl ∙ ap (ahead closing) e)

        go : (r : Option ℕ) → r ≡ ended_at to (drop to file) → r ≡ closing_at at (line (drop at file))
        go (Some next) q =
            let v = ended_at_lem file to h q in
            let p : next ≡ at + (length closing + v.taken) = omega (arith, v.place) in
            ap Some p ∙ sym (ap (λ (s : List ℕ). closing_at at (line s)) (sym front) ∙ with-text (drop to file) [] v.taken v.empty)
        go None q =
            let v = ended-not file to h q in
            sym (ap (λ (s : List ℕ). closing_at at (line s)) (sym front) ∙ with-text (drop to file) (get_or file to 0 ∷ v.more) v.taken v.reads)

-- ---- a line of the text

-- a line with its test
abbrev pub text_line_of : ℕ → List ℕ → Res (List ℕ)
text_line_of limit s = screen (refused_text limit closing) (line s)

-- the answers, by their parts
abbrev refused_at : ℕ → ℕ → Result Base64Line Refusal
refused_at number place = Err (record { number = number; place = place })

abbrev text_of : Groups → ℕ → Result Base64Line Refusal
text_of h next = Ok (Text h next)

-- a line by the refusal of its bytes
abbrev line_by : ℕ → Groups → Option (ℕ × ℕ) → List ℕ → ℕ → Result Base64Line Refusal
line_by at g None t n = Ok (Text (bytes_from g t) (at + n))
line_by at g (Some k) t n = refused_at k.0 (at + k.1)

-- a symbol is a text byte
module _ (x : ℕ) where
  printable : 32 ≤ x → x ≤ 126 → textual x ≡ true
  printable h k = rw (le-leb 32 x h, le-leb x 126 k) (go (eqb x 9))
    where
      go : (b : Bool) → (b || true) ≡ true
      go true = refl
      go false = refl

  in-range : (a b : ℕ) → 32 ≤ a → b ≤ 126 → (leb a x && leb x b) ≡ true → textual x ≡ true
  in-range a b h k e = let q = and_both (leb a x) (leb x b) e in let l = leb-true a x q.0 in let m = leb-true x b
      q.1 in printable (omega arith) (omega arith)

  this-byte : (c : ℕ) → 32 ≤ c → c ≤ 126 → eqb x c ≡ true → textual x ≡ true
  this-byte c h k e = let q = eqb-true x c e in printable (omega arith) (omega arith)

  either : (b : Bool) (s t : Symbol) → (b ≡ true → textual x ≡ true) → (not (is_other t) ≡ true → textual x ≡ true)
      → not (is_other (cond b s t)) ≡ true → textual x ≡ true
  either true s t h k e = h refl
  either false s t h k e = k e

  symbolic-textual : symbolic x ≡ true → textual x ≡ true
  unfolding symbolic symbol
  symbolic-textual =
      either (leb 65 x && leb x 90) _ _ (in-range 65 90 (omega arith) (omega arith))
      (either (leb 97 x && leb x 122) _ _ (in-range 97 122 (omega arith) (omega arith))
      (either (leb 48 x && leb x 57) _ _ (in-range 48 57 (omega arith) (omega arith))
      (either (eqb x 43) _ _ (this-byte 43 (omega arith) (omega arith))
      (either (eqb x 47) _ _ (this-byte 47 (omega arith) (omega arith))
      (either (eqb x 61) _ _ (this-byte 61 (omega arith) (omega arith))
      (either (blank x) Blank Other (blank-textual x) (λ e. let z : ◌≡◌ {A = ℕ} 0 1 = cc in absurd (omega arith))))))))

symbolic-known : (x : ℕ) (b : Bool) → symbolic x ≡ not b → is_other (symbol x) ≡ b
unfolding symbolic
symbolic-known x b e = go (is_other (symbol x)) b e
  where
    go : (a b : Bool) → not a ≡ not b → a ≡ b
    go true true e = refl
    go false false e = refl
    go true false e = sym e
    go false true e = sym e

module _ (file : List ℕ) (at limit : ℕ) (g : Groups) where
  -- another line, by the refusal of its bytes
  not-boundary : (t : List ℕ) (n : ℕ) → line (drop at file) ≡ ok t n → None ≡ closing_at at (line (drop at file))
      → base64_line_at at g (text_line_of limit (drop at file)) ≡ line_by at g (refused_symbol limit 0 t) t n
  not-boundary t n e m = ap (λ (r : Res (List ℕ)). base64_line_at at g (screen (refused_text limit closing) r)) e
      ∙ by (same t closing) refl (m ∙ ap (closing_at at) e)
    where
      go : same t closing ≡ false → (o : Option (ℕ × ℕ)) → base64_line_at at g (screen_or o t n) ≡ line_by at g o t n
      go p None = rw p
      go p (Some k) = refl

      by : (b : Bool) → same t closing ≡ b → None ≡ cond b (Some (at + n)) None → base64_line_at at g
          (screen_or (refused_text limit closing t) t n) ≡ line_by at g (refused_symbol limit 0 t) t n
      by true p q = let z : ◌≡◌ {A = ℕ} 0 1 = cc in absurd (omega arith)
      by false p q = rw p (go p (refused_symbol limit 0 t))

-- a line that starts with a run of symbols from `at` up to r
module _ (file : List ℕ) (at limit : ℕ) (g : Groups) {to r : ℕ} (f : Far at limit (length file) to)
    (run : Run symbolic file at to r) (m : None ≡ closing_at at (line (drop at file))) where
  by-symbols : (t : List ℕ) (n : ℕ) → line (drop r file) ≡ ok t n
      → base64_line_at at g (text_line_of limit (drop at file)) ≡ line_by at g (refused_symbol limit (r - at) t) (slice at r file ++ t) (r - at + n)
  by-symbols t n e =
      let hi = run.high in
      let near = f.near in
      not-boundary file at limit g (slice at r file ++ t) (r - at + n) (line-run file run f.high (λ x p. textual-inside x (symbolic-textual x p)) t n e) m
      ∙ ap (λ (o : Option (ℕ × ℕ)). line_by at g o (slice at r file ++ t) (r - at + n))
      (refused-run file run f.high limit (omega arith) (refused_symbol limit)
      (λ i x t p h. rw (symbolic-textual x p, lt-ltb i limit h, symbolic-known x false p)) t)

  pub line-symbols : (h : Groups) (next : ℕ) → h ≡ bytes_from g (slice at r file) → Some next ≡ ended_at r (drop r file)
      → text_of h next ≡ base64_line_at at g (text_line_of limit (drop at file))
  line-symbols h next e q =
      let lo = run.low in
      let hi = run.high in
      let fi = f.high in
      let v = ended_at_lem file r (omega arith) q in
      let z : next ≡ at + (r - at + v.taken) = omega (arith, v.place) in
      let w : h ≡ bytes_from g (slice at r file ++ []) = e ∙ ap (bytes_from g) (sym (append-nil (slice at r file))) in
      (λ i. text_of (w i) (z i)) ∙ sym (by-symbols [] v.taken v.empty)

  -- the byte after the run is refused
  refused-byte : (x : ℕ) (t : List ℕ) → r < length file → x ≡ get_or file r 0 → refused_symbol limit (r - at) (x ∷ t)
      ≡ Some (refused_number x (r - at) limit, r - at)
  refused-byte x t h e = go (textual x) (ltb (r - at) limit) refl refl
    where
      go : (a b : Bool) → textual x ≡ a → ltb (r - at) limit ≡ b → refused_symbol limit (r - at) (x ∷ t) ≡ Some (refused_number x (r - at) limit, r - at)
      go false b p q = rw p
      go true false p q = rw (p, q)
      go true true p q =
          let l = ltb-true (r - at) limit q in
          let lo = run.low in
          let hi = run.high in
          let s : r < to = before (ltb r to) refl l in
          rw (p, q, symbolic-known x true (ap symbolic e ∙ run.stops s))
        where
          before : (t : Bool) → ltb r to ≡ t → r - at < limit → r < to
          before true u l = ltb-true r to u
          before false u l = let w = ltb-false r to u in let hi = run.high in let lo = run.low in let y : to
              ≡ r = omega arith in let k = f.limits (omega arith) in absurd (omega arith)

  pub line_refused : None ≡ ended_at r (drop r file) → (k : ℕ) → k ≡ refused_number (get_or file r 0) (r - at) limit
      → refused_at k r ≡ base64_line_at at g (text_line_of limit (drop at file))
  line_refused q k e =
      let lo = run.low in
      let hi = run.high in
      let fi = f.high in
      let v = ended-not file r (omega arith) q in
      let z : r ≡ at + (r - at) = omega arith in
      (λ i. refused_at (e i) (z i))
      ∙ sym (by-symbols (get_or file r 0 ∷ v.more) v.taken v.reads
      ∙ ap (λ (o : Option (ℕ × ℕ)). line_by at g o (slice at r file ++ (get_or file r 0 ∷ v.more)) (r - at + v.taken))
      (refused-byte (get_or file r 0) v.more v.byte refl))

-- ---- one turn of letters, by what its first line is

abbrev stopped : ℕ → ℕ → Result Base64Text Stop
stopped number place = Err (Refused (record { number = number; place = place }))

abbrev closed_text : Groups → ℕ → ℕ → Result Base64Text Stop
closed_text g closing next = Ok (record { groups = g; closing = closing; next = next })

module _ (limit f m : ℕ) (s : List ℕ) (lt : 0 < length s) where
  turned : Res (List ℕ) → Res Letters
  turned r = then (counted r) (λ tn. more_text (same tn.0 closing) (λ a. letters limit closing f a) m tn) s

  turn : letters limit closing (suc f) m s ≡ turned (text_line_of limit s)
  unfolding letters turned
  turn = ap (λ (r : Res (List ℕ × ℕ)). then r (λ tn. more_text (same tn.0 closing) (λ a. letters limit closing f a) m tn) s) (go s lt)
    where
      go : (u : List ℕ) → 0 < length u → onward (λ r. counted (text_line_of limit r)) u ≡ counted (text_line_of limit u)
      go [] lt = absurd (let z : ⊥ = omega arith in z)
      go (x ∷ u) lt = refl

  refused-turn : (k p : ℕ) → text_line_of limit s ≡ bad k p → letters limit closing (suc f) m s ≡ bad k p
  unfolding turned
  refused-turn k p e = turn ∙ ap turned e

  closing-turn : (t : List ℕ) (n : ℕ) → text_line_of limit s ≡ ok t n → same t closing ≡ true → letters limit closing
      (suc f) m s ≡ ok (record { symbols = []; closing = m }) n
  unfolding turned
  closing-turn t n e p = turn ∙ ap turned e ∙ rw p (let q : n + 0 ≡ n = omega arith in ap (λ (j : ℕ). ok (record { symbols = []; closing = m }) j) q)

  -- with the symbols of a line before
  text-turn : (at next : ℕ) (g : Groups) (t : List ℕ) (n : ℕ) → text_line_of limit s ≡ ok t n → same t closing ≡ false
      → letters_at at next g (letters limit closing (suc f) m s) ≡ letters_at at (next + n) (bytes_from g t) (letters limit closing f (m + n) (drop n s))
  unfolding turned
  text-turn at next g t n e p = ap (letters_at at next g) (turn ∙ ap turned e) ∙ rw p (go (letters limit closing f (m + n) (drop n s)))
    where
      go : (r : Res Letters) → letters_at at next g
          (plus n (then r (λ l. ret (record { symbols = add_symbols t l.symbols; closing = l.closing }))
          (drop n s))) ≡ letters_at at (next + n) (bytes_from g t) r
      go (bad k p) = let q : next + (n + p) ≡ next + n + p = omega arith in ap (λ (j : ℕ). stopped k j) q
      go cut = refl
      go (ok l j) =
          let q : next + (n + (j + 0)) ≡ next + n + j = omega arith in
          let b = groups-bytes g t l.symbols in
          λ i. closed_text (b i) (at + l.closing) (q i)

no-byte-turn : (limit f m : ℕ) → letters limit closing f m [] ≡ cut
unfolding letters
no-byte-turn limit zero m = refl
no-byte-turn limit (suc f) m = refl

-- ---- the loop

-- the text that starts at at
abbrev pub whole_text : List ℕ → ℕ → ℕ → Result Base64Text Stop
whole_text file at limit = letters_at at at (groups_of []) (letters limit closing file_limit 0 (drop at file))

-- the same, from at most f lines from next on
abbrev pub rest_text : List ℕ → ℕ → ℕ → ℕ → ℕ → Groups → Result Base64Text Stop
rest_text file at limit f next g = letters_at at next g (letters limit closing f (next - at) (drop next file))

-- the whole gives what the lines from next on give after the symbols g
pub record Passed (file : List ℕ) (at limit next : ℕ) (g : Groups) : Type 0 where
  pub bound : ℕ
  pub enough : length file - next ≤ bound
  pub low : at ≤ next
  pub high : next ≤ length file
  pub few : g.letters + g.pads ≤ next
  pub whole : whole_text file at limit ≡ rest_text file at limit bound next g

pub passed_none : (file : List ℕ) (at limit : ℕ) (g : Groups) → g ≡ groups_of [] → at ≤ length file → length file ≤ file_limit → Passed file at limit at g
unfolding groups_of groups_from
passed_none file at limit g e h l = record {
  bound = file_limit;
  enough = omega arith;
  low = omega arith;
  high = h;
  few = rw e (omega arith);
  whole = let q : 0 ≡ at - at = omega arith in (λ i. letters_at at at (sym e i) (letters limit closing file_limit (q i) (drop at file)));
}

pub passed-all : (file : List ℕ) (at limit next : ℕ) (g : Groups) → Passed file at limit next g → length file ≤ next → Err CutOff ≡ whole_text file at limit
passed-all file at limit next g r h =
    sym (r.whole
    ∙ ap (λ (s : List ℕ). letters_at at next g (letters limit closing r.bound (next - at) s)) (drop_of_length-le file h)
    ∙ ap (letters_at at next g) (no-byte-turn limit r.bound (next - at)))

module _ (file : List ℕ) (at limit next : ℕ) (g : Groups) (r : Passed file at limit next g) (lt : next < length file) where
  -- a turn is left
  turn-left : (f : ℕ) × (length file - next ≤ suc f) × (whole_text file at limit ≡ rest_text file at limit (suc f) next g)
  turn-left = go r.bound r.enough r.whole
    where
      go : (f : ℕ) → length file - next ≤ f → whole_text file at limit ≡ rest_text file at limit f next g
          → (f : ℕ) × (length file - next ≤ suc f) × (whole_text file at limit ≡ rest_text file at limit (suc f) next g)
      go zero h w = absurd (let z : ⊥ = omega arith in z)
      go (suc f) h w = (f, h, w)

  left : 0 < length (drop next file)
  left = omega (arith, length-drop next file)

  -- by what the line that is read is
  by-line : {P : Type 0} (l : Result Base64Line Refusal) → l ≡ base64_line_at next g (text_line_of limit (drop next file))
      → ((k p : ℕ) → text_line_of limit (drop next file) ≡ bad k p → l ≡ refused_at k (next + p) → P)
      → ((t : List ℕ) (n : ℕ) → text_line_of limit (drop next file) ≡ ok t n → same t closing ≡ true → l ≡ Ok (Closing (next + n)) → P)
      → ((t : List ℕ) (n : ℕ) → text_line_of limit (drop next file) ≡ ok t n → same t closing ≡ false → l ≡ text_of (bytes_from g t) (next + n) → P)
      → P
  by-line {P} l e refused closes text = go (text_line_of limit (drop next file)) refl e
    where
      not-cut : text_line_of limit (drop next file) ≡ cut → ⊥
      not-cut q = let v = line-good (drop next file) in no (refused_text limit closing v.0) v.0 v.1
          (ap (screen (refused_text limit closing)) (sym v.2.reads) ∙ q)
        where
          no : (o : Option (ℕ × ℕ)) (t : List ℕ) (n : ℕ) → screen_or o t n ≡ cut → ⊥
          no None t n q = let z : ◌≡◌ {A = ℕ} 0 1 = cc in omega arith
          no (Some k) t n q = let z : ◌≡◌ {A = ℕ} 0 1 = cc in omega arith

      by : (t : List ℕ) (n : ℕ) → text_line_of limit (drop next file) ≡ ok t n → (b : Bool) → same t closing ≡ b → l
          ≡ Ok (cond b (Closing (next + n)) (Text (bytes_from g t) (next + n))) → P
      by t n q true p e = closes t n q p e
      by t n q false p e = text t n q p e

      go : (y : Res (List ℕ)) → text_line_of limit (drop next file) ≡ y → l ≡ base64_line_at next g y → P
      go (bad k p) q e = refused k p q e
      go cut q e = absurd (not-cut q)
      go (ok t n) q e = by t n q (same t closing) refl e

  pub passed-refused : (w : Refusal) → Err w ≡ base64_line_at next g (text_line_of limit (drop next file)) → Err (Refused w) ≡ whole_text file at limit
  passed-refused w e =
      by-line (Err w) e
      (λ k p q h. let z : w ≡ record { number = k; place = next + p } = cc in let u = turn-left in
      ap (λ (r : Refusal). stopped r.number r.place) z ∙ sym (u.2 ∙ ap (letters_at at next g) (refused-turn limit u.0 (next - at) (drop next file) left k p q)))
      (λ t n q p h. let z : ◌≡◌ {A = ℕ} 0 1 = cc in absurd (omega arith)) (λ t n q p h. let z : ◌≡◌ {A = ℕ} 0 1 = cc in absurd (omega arith))

  pub passed-closing : (after : ℕ) → Ok (Closing after) ≡ base64_line_at next g (text_line_of limit (drop next file)) → closed_text g next after ≡ whole_text file at limit
  unfolding groups_from
  passed-closing after e =
      by-line (Ok (Closing after)) e (λ k p q h. let z : ◌≡◌ {A = ℕ} 0 1 = cc in absurd (omega arith))
      (λ t n q p h. let z : after ≡ next + n = cc in let lo = r.low in let y : next ≡ at + (next - at) = omega arith in let u = turn-left in
      (λ i. closed_text g (y i) (z i)) ∙ sym (u.2 ∙ ap (letters_at at next g) (closing-turn limit u.0 (next - at) (drop next file) left t n q p)))
      (λ t n q p h. let z : ◌≡◌ {A = ℕ} 0 1 = cc in absurd (omega arith))

  pub passed-text : (h : Groups) (after : ℕ) → text_of h after ≡ base64_line_at next g (text_line_of limit (drop next file))
      → h.letters + h.pads ≤ after → Passed file at limit after h × (next < after)
  passed-text h after e few =
      by-line (text_of h after) e (λ k p q h. let z : ◌≡◌ {A = ℕ} 0 1 = cc in absurd (omega arith))
      (λ t n q p h. let z : ◌≡◌ {A = ℕ} 0 1 = cc in absurd (omega arith)) more
    where
      more : (t : List ℕ) (n : ℕ) → text_line_of limit (drop next file) ≡ ok t n → same t closing ≡ false → text_of h after
          ≡ text_of (bytes_from g t) (next + n) → Passed file at limit after h × (next < after)
      more t n q p w =
          let b : h ≡ bytes_from g t = cc in
          let a : after ≡ next + n = cc in
          let l : line (drop next file) ≡ ok t n = (unscreen (refused_text limit closing) (line (drop next file)) t n q).0 in
          let v : 0 < n = line-pos (get_or file next 0) (drop (suc next) file) t n (ap line (sym (drop-cons file next 0 lt)) ∙ l) in
          let i : n ≤ length (drop next file) = line-tame.within (drop next file) t n l in
          let lo = r.low in
          let u = turn-left in
          let m : next - at + n ≡ after - at = omega arith in
          let enough : length file - after ≤ u.0 = omega (arith, u.1) in (
            record {
              bound = u.0;
              enough = enough;
              low = omega arith;
              high = omega (arith, length-drop next file);
              few = few;
              whole = u.2
                  ∙ text-turn limit u.0 (next - at) (drop next file) left at next g t n q p
                  ∙ ap (λ (s : List ℕ). letters_at at (next + n) (bytes_from g t) (letters limit closing u.0 (next - at + n) s)) (drop-drop n next file)
                  ∙ ap (λ (j : ℕ). letters_at at (next + n) (bytes_from g t) (letters limit closing u.0 j (drop (next + n) file))) m
                  ∙ (λ i. letters_at at (sym a i) (sym b i) (letters limit closing u.0 (after - at) (drop (sym a i) file)));
            },
            omega arith,
          )

-- ---- the symbols of a text are letters and pads

more-plain : (b : Bool) (go : ℕ → Parser Letters) (at : ℕ) (tn : List ℕ × ℕ)
    → ((m : ℕ) (s : List ℕ) (l : Letters) (n : ℕ) → go m s ≡ ok l n → Plains l.symbols)
    → (s : List ℕ) (l : Letters) (n : ℕ) → more_text b go at tn s ≡ ok l n → Plains l.symbols
more-plain true go at tn each s l n e = subst (λ (k : Letters). Plains k.symbols) (ok-val e) no_symbol
more-plain false go at tn each s l n e =
    let u = unbind (go (at + tn.1)) (λ (l : Letters). ret (record { symbols = add_symbols tn.0 l.symbols; closing = l.closing })) s l n e in
    subst (λ (k : Letters). Plains k.symbols) (ok-val u.then_did) (plain-bytes tn.0 (each (at + tn.1) s u.val u.first u.did))

pub letters-plain : (limit : ℕ) (boundary : List ℕ) (f at : ℕ) (s : List ℕ) (l : Letters) (n : ℕ) → letters limit boundary f at s ≡ ok l n → Plains l.symbols
unfolding letters
letters-plain limit boundary zero at s l n e = absurd (cut≢ok e)
letters-plain limit boundary (suc f) at s l n e =
    let u = unbind (onward (λ r. counted (screen (refused_text limit boundary) (line r))))
    (λ (tn : List ℕ × ℕ). more_text (same tn.0 boundary) (λ m. letters limit boundary f m) at tn) s l n e in
    more-plain (same u.val.0 boundary) (λ m. letters limit boundary f m) at u.val (λ m s l n e. letters-plain
    limit boundary f m s l n e) (drop u.first s) l u.second u.then_did
