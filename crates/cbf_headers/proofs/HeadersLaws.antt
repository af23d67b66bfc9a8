-- Passing over header lines: what each line does to what is left, and where the lines stand in the file. Assumes
-- nothing.
use mathlib.Core.Path.{◌≡◌, refl, sym, ap, ◌∙◌, subst}
use Rattle.std.specs.Prelude.{Option, None, Some, Result, Ok, Err}
use mathlib.Core.Bool.{Bool, true, false}
use mathlib.Core.List.{List, [], ◌∷◌}
use Prim.Native.Nat.{ℕ, zero, suc, ◌+◌, ◌-◌, ◌≤◌, ◌<◌}
use native.Mathlib.Omega.{arith}
use lib.Dec.{eqb}
use borrow.Author.Tests.{eq-eqb, ne_eqb}
use lib.ListN.{length, drop, get_or, length-drop, drop_of_length-le}
use lib.Seq.{drop-cons, drop-drop}
use Rattle.cbf_walk.specs.Parsers.{Res, bad, cut, ok, hd, ret, plus, counted, screen_or, screen, onward, then}
use Rattle.cbf_walk.proofs.ParserLaws.{bad≢ok, cut≢ok, ok-val, ok-num, unscreen}
use Rattle.cbf_format.specs.Lines.{end_length, add_byte, line_or, line, refused_byte}
use Rattle.cbf_format.specs.Headers.{or_malformed, malformed, header_line, HeaderLines, add_line, more_lines}
use Rattle.cbf_format.specs.Headers.{header_lines}
use Rattle.cbf_answers.specs.Limits.{file_limit}
use Rattle.cbf_format.proofs.LineTame.{line-pos, line-tame}
use Rattle.cbf_answers.specs.declared.Refusal.{Refusal}
use Rattle.cbf_lines.specs.Line.{line_at}
use Rattle.cbf_headers.specs.Headers.{headers_at}
use Rattle.cbf_headers.specs.HeaderParts.{refused_header, LineHere, LinesHere}
use Rattle.cbf_format.specs.declared.Stop.{Stop}
use Rattle.cbf_format.specs.declared.Stop.TheVariants.{Refused, CutOff}
use Rattle.cbf_lines.specs.declared.line.Line.{Line}
use Rattle.cbf_headers.specs.declared.headers.HeaderEnd.{HeaderEnd}

-- ---- one header line

-- no line is cut
line_ok : (s : List ℕ) → (t : List ℕ) × (n : ℕ) × (line s ≡ ok t n)
line_ok [] = ([], 0, refl)
line_ok (x ∷ xs) = go (eqb x 10) (eqb x 13) (line_ok xs)
  where
    go : (u v : Bool) → ((t : List ℕ) × (n : ℕ) × (line xs ≡ ok t n))
        → (t : List ℕ) × (n : ℕ) × (line_or u v x xs (line xs) ≡ ok t n)
    go true v r = ([], 1, refl)
    go false true r = ([], end_length (hd xs), refl)
    go false false r = (x ∷ r.0, suc r.1, ap (add_byte x) r.2)

module _ (limit : ℕ) (first : Bool) where
  pub header-not-cut : (s : List ℕ) → header_line limit first s ≡ cut → ⊥
  unfolding header_line
  header-not-cut s e = let l = line_ok s in
      go (refused_header limit first l.0) (ap (screen (refused_header limit first)) (sym l.2) ∙ e)
    where
      go : (o : Option (ℕ × ℕ)) → screen_or o (line_ok s).0 (line_ok s).1 ≡ cut → ⊥
      go None q = cc
      go (Some k) q = cc

  pub header-is-line : (s t : List ℕ) (n : ℕ) → header_line limit first s ≡ ok t n
      → (line s ≡ ok t n) × (refused_header limit first t ≡ None)
  unfolding header_line
  header-is-line s t n e = unscreen (refused_header limit first) (line s) t n e

  -- before the file's end a line takes a byte, and it ends in the file
  pub header-moves : (file : List ℕ) (next : ℕ) → next < length file → (t : List ℕ) (n : ℕ) → header_line limit first
      (drop next file) ≡ ok t n → (0 < n) × (next + n ≤ length file)
  header-moves file next lt t n e =
      let l : line (drop next file) ≡ ok t n = (header-is-line (drop next file) t n e).0 in
      let p : 0 < n =
      line-pos (get_or file next 0) (drop (suc next) file) t n (ap line (sym (drop-cons file next 0 lt)) ∙ l) in
      let w : n ≤ length (drop next file) = line-tame.within (drop next file) t n l in
      (p, omega (arith, length-drop next file))

-- ---- one turn of header_lines, by what its first line is

-- what the lines after a line with text give, with that line
abbrev pub with_line : ℕ → List ℕ → ℕ → Res HeaderLines → Res HeaderLines
with_line m t n (bad k p) = bad k (n + p)
with_line m t n cut = cut
with_line m t n (ok hs j) = ok (add_line m t hs) (n + j)

module _ (limit f : ℕ) (first : Bool) (m : ℕ) (s : List ℕ) where
  turned : Res (List ℕ) → Res HeaderLines
  turned r = then (counted r) (more_lines (λ a. header_lines limit f false a) m) s

  -- a byte is left
  turn : 0 < length s → header_lines limit (suc f) first m s ≡ turned (header_line limit first s)
  unfolding header_lines turned
  turn lt = ap (λ (r : Res (List ℕ × ℕ)). then r (more_lines (λ a. header_lines limit f false a) m) s) (go s lt)
    where
      go : (u : List ℕ) → 0 < length u
          → onward (λ r. counted (header_line limit first r)) u ≡ counted (header_line limit first u)
      go [] lt = absurd (let z : ⊥ = omega arith in z)
      go (x ∷ u) lt = refl

  module _ (lt : 0 < length s) where
    pub refused-turn : (k p : ℕ) → header_line limit first s ≡ bad k p → header_lines limit (suc f) first m s ≡ bad k p
    unfolding turned
    refused-turn k p e = turn lt ∙ ap turned e

    pub empty-turn : (n : ℕ) → header_line limit first s ≡ ok [] n
        → header_lines limit (suc f) first m s ≡ ok (record { lines = []; empty = m }) n
    unfolding turned
    empty-turn n e = turn lt ∙ ap turned e
        ∙ (let q : n + 0 ≡ n = omega arith in ap (λ (j : ℕ). ok (record { lines = []; empty = m }) j) q)

    pub line-turn : (x : ℕ) (t : List ℕ) (n : ℕ) → header_line limit first s ≡ ok (x ∷ t) n
        → header_lines limit (suc f) first m s ≡ with_line m (x ∷ t) n (header_lines limit f false (m + n) (drop n s))
    unfolding turned
    line-turn x t n e = turn lt ∙ ap turned e ∙ go (header_lines limit f false (m + n) (drop n s))
      where
        go : (r : Res HeaderLines)
            → plus n (then r (λ hs. ret (add_line m (x ∷ t) hs)) (drop n s)) ≡ with_line m (x ∷ t) n r
        go (bad k p) = refl
        go cut = refl
        go (ok hs j) = let q : n + (j + 0) ≡ n + j = omega arith in ap (λ (i : ℕ). ok (add_line m (x ∷ t) hs) i) q

pub no-byte-turn : (limit f : ℕ) (first : Bool) (m : ℕ) → header_lines limit f first m [] ≡ cut
unfolding header_lines
no-byte-turn limit zero first m = refl
no-byte-turn limit (suc f) first m = refl

-- ---- the loop

-- the end of the headers that start at at
abbrev pub whole_end : List ℕ → ℕ → ℕ → Result HeaderEnd Stop
whole_end file at limit = headers_at at at (header_lines limit file_limit true 0 (drop at file))

-- the same, from at most f lines from next on
abbrev pub rest_end : List ℕ → ℕ → ℕ → ℕ → ℕ → Bool → Result HeaderEnd Stop
rest_end file at limit f next first = headers_at at next (header_lines limit f first (next - at) (drop next file))

-- the whole gives what the lines from next on give
pub record Passed (file : List ℕ) (at limit next : ℕ) (first : Bool) : Type 0 where
  pub bound : ℕ
  pub enough : length file - next ≤ bound
  pub low : at ≤ next
  pub high : next ≤ length file
  pub whole : whole_end file at limit ≡ rest_end file at limit bound next first

pub passed_none : (file : List ℕ) (at limit : ℕ) → at ≤ length file → length file ≤ file_limit
    → Passed file at limit at (eqb at at)
passed_none file at limit h l = record {
  bound = file_limit;
  enough = omega arith;
  low = omega arith;
  high = h;
  whole =
      let q : 0 ≡ at - at = omega arith in
      let b : true ≡ eqb at at = sym (eq-eqb at at refl) in
      λ i. headers_at at at (header_lines limit file_limit (b i) (q i) (drop at file));
}

pub passed-all : {file : List ℕ} {at limit next : ℕ} {first : Bool} → Passed file at limit next first
    → length file ≤ next → Err CutOff ≡ whole_end file at limit
passed-all {file} {at} {limit} {next} {first} r h =
    sym (r.whole
    ∙ ap (λ (s : List ℕ). headers_at at next (header_lines limit r.bound first (next - at) s))
    (drop_of_length-le file h)
    ∙ ap (headers_at at next) (no-byte-turn limit r.bound first (next - at)))

module _ {file : List ℕ} {at limit next : ℕ} {first : Bool} (r : Passed file at limit next first)
    (lt : next < length file) where
  -- a turn is left
  turn-left : (f : ℕ) × (length file - next ≤ suc f)
      × (whole_end file at limit ≡ rest_end file at limit (suc f) next first)
  turn-left = go r.bound r.enough r.whole
    where
      go : (f : ℕ) → length file - next ≤ f → whole_end file at limit ≡ rest_end file at limit f next first
          → (f : ℕ) × (length file - next ≤ suc f)
          × (whole_end file at limit ≡ rest_end file at limit (suc f) next first)
      go zero h w = absurd (let z : ⊥ = omega arith in z)
      go (suc f) h w = (f, h, w)

  left : 0 < length (drop next file)
  left = omega (arith, length-drop next file)

  pub passed-refused : {d : Refusal} → Err d ≡ line_at next (header_line limit first (drop next file))
      → Err (Refused d) ≡ whole_end file at limit
  passed-refused {d} e = go (header_line limit first (drop next file)) refl e
    where
      go : (y : Res (List ℕ)) → header_line limit first (drop next file) ≡ y → Err d ≡ line_at next y
          → Err (Refused d) ≡ whole_end file at limit
      go (bad k p) q e =
          let w : d ≡ record { number = k; place = next + p } = cc in
          let u = turn-left in
          ap (λ (d : Refusal). Err (Refused d)) w
          ∙ sym (u.2
          ∙ ap (headers_at at next) (refused-turn limit u.0 first (next - at) (drop next file) left k p q))
      go cut q e = absurd (header-not-cut limit first (drop next file) q)
      go (ok t n) q e = cc

  module _ {l : Line} (e : Ok l ≡ line_at next (header_line limit first (drop next file))) where
    -- the line that was read: its text ends at l.to, and the next line starts at l.next
    text-line : (t : List ℕ) × (n : ℕ) × (header_line limit first (drop next file) ≡ ok t n) × (l.to ≡ next + length t)
        × (l.next ≡ next + n)
    text-line = go (header_line limit first (drop next file)) refl e
      where
        go : (y : Res (List ℕ)) → header_line limit first (drop next file) ≡ y → Ok l ≡ line_at next y
            → (t : List ℕ) × (n : ℕ) × (header_line limit first (drop next file) ≡ ok t n) × (l.to ≡ next + length t)
            × (l.next ≡ next + n)
        go (bad k p) q e = cc
        go cut q e = cc
        go (ok t n) q e = (t, n, q, cc, cc)

    pub passed-empty : l.to ≡ next → Ok (record { empty = next; next = l.next }) ≡ whole_end file at limit
    passed-empty z = let l = text-line in go l.0 l.1 l.2 l.3 l.4
      where
        go : (t : List ℕ) (n : ℕ) → header_line limit first (drop next file) ≡ ok t n → l.to ≡ next + length t
            → l.next ≡ next + n
            → Ok (record { empty = next; next = l.next }) ≡ whole_end file at limit
        go [] n q w a =
            let b : next ≡ at + (next - at) = omega (arith, r.low) in
            let u = turn-left in
            (λ i. Ok (record { empty = b i; next = a i }))
            ∙ sym (u.2 ∙ ap (headers_at at next) (empty-turn limit u.0 first (next - at) (drop next file) left n q))
        go (x ∷ t) n q w a = absurd (let y : ⊥ = omega arith in y)

    pub passed-line : (l.to ≡ next → ⊥) → Passed file at limit l.next (eqb l.next at) × (next < l.next)
    passed-line z =
        let t = text-line in
        let p = go t.0 t.1 t.2 t.3 t.4 in
        let b : false ≡ eqb l.next at = sym (ne_eqb l.next at (λ e. omega (arith, p.1, r.low))) in
        (subst (λ (b : Bool). Passed file at limit l.next b) b p.0, p.1)
      where
        -- the same, from the next line on
        onto : (m : ℕ) (t : List ℕ) (n : ℕ) (y : Res HeaderLines)
            → headers_at at next (with_line m t n y) ≡ headers_at at (next + n) y
        onto m t n (bad k p) = let q : next + (n + p) ≡ next + n + p = omega arith in
            ap (λ (j : ℕ). Err (Refused (record { number = k; place = j }))) q
        onto m t n cut = refl
        onto m t n (ok hs j) = let q : next + (n + j) ≡ next + n + j = omega arith in
            ap (λ (i : ℕ). Ok (record { empty = at + hs.empty; next = i })) q

        more : (f : ℕ) → length file - next ≤ suc f
            → whole_end file at limit ≡ rest_end file at limit (suc f) next first
            → (x : ℕ) (t : List ℕ) (n : ℕ) → header_line limit first (drop next file) ≡ ok (x ∷ t) n → l.next ≡ next + n
            → Passed file at limit l.next false × (next < l.next)
        more f h w x t n q a =
            let v = header-moves limit first file next lt (x ∷ t) n q in
            let p : 0 < n = v.0 in
            let b : next + n ≤ length file = v.1 in
            let low = r.low in
            let m : next - at + n ≡ l.next - at = omega arith in (
              record {
                bound = f;
                enough = omega arith;
                low = omega arith;
                high = omega arith;
                whole = w
                    ∙ ap (headers_at at next) (line-turn limit f first (next - at) (drop next file) left x t n q)
                    ∙ onto (next - at) (x ∷ t) n (header_lines limit f false (next - at + n) (drop n (drop next file)))
                    ∙ ap (λ (s : List ℕ). headers_at at (next + n) (header_lines limit f false (next - at + n) s))
                    (drop-drop n next file)
                    ∙ ap (λ (j : ℕ). headers_at at (next + n) (header_lines limit f false j (drop (next + n) file))) m
                    ∙ ap (λ (j : ℕ). headers_at at j (header_lines limit f false (l.next - at) (drop j file))) (sym a);
              },
              omega arith,
            )

        go : (t : List ℕ) (n : ℕ) → header_line limit first (drop next file) ≡ ok t n → l.to ≡ next + length t → l.next
            ≡ next + n → Passed file at limit l.next false × (next < l.next)
        go [] n q w a = absurd (z (omega arith))
        go (x ∷ t) n q w a = let u = turn-left in more u.0 u.1 u.2 x t n q a

-- ---- where the lines stand in the file, for a second pass over them

-- what n bytes from there on gave
abbrev pub HeadersAfter : List ℕ → ℕ → ℕ → Bool → ℕ → HeaderLines → ℕ → Type 0
HeadersAfter file at limit first m hs n = LinesHere file at limit hs.empty (m + n) first m hs.lines

byte_left : (limit f : ℕ) (first : Bool) (m : ℕ) (s : List ℕ) {hs : HeaderLines} {n : ℕ}
    → header_lines limit f first m s ≡ ok hs n → 0 < length s
byte_left limit f first m [] e = absurd (cut≢ok (sym (no-byte-turn limit f first m) ∙ e))
byte_left limit f first m (x ∷ s) e = omega arith

-- what a success with the first line says
unwith-line : (m : ℕ) (t : List ℕ) (k : ℕ) (r : Res HeaderLines) (hs : HeaderLines) (n : ℕ)
    → with_line m t k r ≡ ok hs n
    → (rest : HeaderLines) × (j : ℕ) × (r ≡ ok rest j) × (add_line m t rest ≡ hs) × (k + j ≡ n)
unwith-line m t k (bad i p) hs n e = absurd (bad≢ok e)
unwith-line m t k cut hs n e = absurd (cut≢ok e)
unwith-line m t k (ok rest j) hs n e = (rest, j, refl, ok-val e, ok-num e)

-- the first line stands there, where the lines after it do
module _ (file : List ℕ) (at limit f : ℕ) (first : Bool) (m : ℕ) where
  first-here : ((a : ℕ) (hs : HeaderLines) (n : ℕ) → header_lines limit f false a (drop (at + a) file) ≡ ok hs n
      → HeadersAfter file at limit false a hs n)
      → (hs : HeaderLines) (n : ℕ) → header_lines limit (suc f) first m (drop (at + m) file) ≡ ok hs n
      → HeadersAfter file at limit first m hs n
  first-here after-it hs n e = go (header_line limit first (drop (at + m) file)) refl
    where
      left : 0 < length (drop (at + m) file)
      left = byte_left limit (suc f) first m (drop (at + m) file) e

      lt : at + m < length file
      lt = omega (arith, left, length-drop (at + m) file)

      last : (k : ℕ) → header_line limit first (drop (at + m) file) ≡ ok [] k → ◌≡◌ {A = Res HeaderLines}
          (ok (record { lines = []; empty = m }) k) (ok hs n) → HeadersAfter file at limit first m hs n
      last k q w =
          let v = header-moves limit first file (at + m) lt [] k q in
          subst (λ (h : HeaderLines). HeadersAfter file at limit first m h n) (ok-val w)
          (record {
            place = refl;
            taken = k;
            reads = (header-is-line limit first (drop (at + m) file) [] k q).0;
            moves = v.0;
            ends = let z : k ≡ n = ok-num w in omega arith;
            inside = omega (arith, v.1, ok-num w);
          })

      more : (x : ℕ) (t : List ℕ) (k : ℕ) → header_line limit first (drop (at + m) file) ≡ ok (x ∷ t) k
          → (rest : HeaderLines) (j : ℕ)
          → header_lines limit f false (m + k) (drop k (drop (at + m) file)) ≡ ok rest j → add_line m (x ∷ t) rest ≡ hs
          → k + j ≡ n → HeadersAfter file at limit first m hs n
      more x t k q rest j w u z =
          let v = header-moves limit first file (at + m) lt (x ∷ t) k q in
          let l = header-is-line limit first (drop (at + m) file) (x ∷ t) k q in
          let p : at + m + k ≡ at + (m + k) = omega arith in
          let o : m + k + j ≡ m + n = omega arith in
          let d : drop (at + (m + k)) file ≡ drop k (drop (at + m) file) =
          sym (drop-drop k (at + m) file ∙ ap (λ (i : ℕ). drop i file) p) in
          let ls : HeadersAfter file at limit false (m + k) rest j =
          after-it (m + k) rest j (ap (header_lines limit f false (m + k)) d ∙ w) in
          subst (λ (h : HeaderLines). HeadersAfter file at limit first m h n) u (
            record {
              place = refl;
              taken = k;
              reads = l.0;
              passes = l.1;
              some_text = omega arith;
              moves = v.0;
              inside =
                  omega (arith, v.1);
            },
            subst (λ (i : ℕ). LinesHere file at limit rest.empty i false (m + k) rest.lines) o ls,
          )

      go : (y : Res (List ℕ)) → header_line limit first (drop (at + m) file) ≡ y
          → HeadersAfter file at limit first m hs n
      go (bad k p) q = absurd (bad≢ok (sym (refused-turn limit f first m (drop (at + m) file) left k p q) ∙ e))
      go cut q = absurd (header-not-cut limit first (drop (at + m) file) q)
      go (ok [] k) q = last k q (sym (empty-turn limit f first m (drop (at + m) file) left k q) ∙ e)
      go (ok (x ∷ t) k) q =
          let u = unwith-line m (x ∷ t) k (header_lines limit f false (m + k) (drop k (drop (at + m) file))) hs n
          (sym (line-turn limit f first m (drop (at + m) file) left x t k q) ∙ e) in
          more x t k q u.0 u.1 u.2 u.3 u.4

pub lines-here : (file : List ℕ) (at limit f : ℕ) (first : Bool) (m : ℕ) (hs : HeaderLines) (n : ℕ)
    → header_lines limit f first m (drop (at + m) file) ≡ ok hs n
    → HeadersAfter file at limit first m hs n
unfolding header_lines
lines-here file at limit zero first m hs n e = absurd (cut≢ok e)
lines-here file at limit (suc f) first m hs n e =
    first-here file at limit f first m (λ a hs n e. lines-here file at limit f false a hs n e) hs n e

-- ---- a loop over the lines: m runs to empty

module _ (file : List ℕ) (at limit empty after : ℕ) where
  pub lines-low : (first : Bool) (m : ℕ) (ls : List (ℕ × List ℕ)) → LinesHere file at limit empty after first m ls
      → m ≤ empty
  lines-low first m [] h = omega (arith, h.place)
  lines-low first m (l ∷ ls) h = omega (arith, lines-low false (m + h.0.taken) ls h.1)

  -- the empty line ends in the file
  pub lines_end : (first : Bool) (m : ℕ) (ls : List (ℕ × List ℕ)) → LinesHere file at limit empty after first m ls
      → (empty < after) × (at + after ≤ length file)
  lines_end first m [] h = (omega (arith, h.place, h.ends, h.moves), h.inside)
  lines_end first m (l ∷ ls) h = lines_end false (m + h.0.taken) ls h.1

  -- at the empty line none is left
  pub lines_none : (first : Bool) (m : ℕ) (ls : List (ℕ × List ℕ)) → LinesHere file at limit empty after first m ls
      → empty ≤ m → ls ≡ []
  lines_none first m [] h e = refl
  lines_none first m (l ∷ ls) h e =
      absurd (let z : ⊥ = omega (arith, h.0.moves, lines-low false (m + h.0.taken) ls h.1) in z)

  -- before it one is
  pub record LineLeft (first : Bool) (m : ℕ) (ls : List (ℕ × List ℕ)) : Type 0 where
    pub this : ℕ × List ℕ
    pub others : List (ℕ × List ℕ)
    pub all : ls ≡ this ∷ others
    pub here : LineHere file at limit first m this
    pub on : LinesHere file at limit empty after false (m + here.taken) others

  pub lines-some : (first : Bool) (m : ℕ) (ls : List (ℕ × List ℕ)) → LinesHere file at limit empty after first m ls
      → m < empty → LineLeft first m ls
  lines-some first m [] h e = absurd (let z : ⊥ = omega (arith, h.place) in z)
  lines-some first m (l ∷ ls) h e = record { this = l; others = ls; all = refl; here = h.0; on = h.1 }

module _ (file : List ℕ) (at limit : ℕ) (first : Bool) (m : ℕ) (l : ℕ × List ℕ) (h : LineHere file at limit first m l)
  where
    pub here-header : header_line limit first (drop (at + m) file) ≡ ok l.1 h.taken
    unfolding header_line
    here-header = rw h.reads (ap (λ (o : Option (ℕ × ℕ)). screen_or o l.1 h.taken) h.passes)

    pub here-formed : malformed first l.1 ≡ false
    here-formed = go (refused_byte limit 0 l.1) (malformed first l.1) h.passes
      where
        go : (o : Option (ℕ × ℕ)) (b : Bool) → or_malformed o b ≡ None → b ≡ false
        go (Some k) b e = cc
        go None true e = cc
        go None false e = refl

-- what the answer of header_end says, where it is the empty line
pub record Headed (file : List ℕ) (at limit f : ℕ) (end : HeaderEnd) : Type 0 where
  pub headers : HeaderLines
  pub taken : ℕ
  pub reads : header_lines limit f true 0 (drop at file) ≡ ok headers taken
  pub start : end.empty ≡ at + headers.empty
  pub ends : end.next ≡ at + taken
  pub here : LinesHere file at limit headers.empty taken true 0 headers.lines

pub headed : (file : List ℕ) (at limit f : ℕ) {end : HeaderEnd}
    → Ok end ≡ headers_at at at (header_lines limit f true 0 (drop at file))
    → Headed file at limit f end
headed file at limit f {end} e = go (header_lines limit f true 0 (drop at file)) refl e
  where
    go : (r : Res HeaderLines) → header_lines limit f true 0 (drop at file) ≡ r → Ok end ≡ headers_at at at r
        → Headed file at limit f end
    go (bad k p) q e = cc
    go cut q e = cc
    go (ok hs n) q e =
        let a : at + 0 ≡ at = omega arith in
        let b : 0 + n ≡ n = omega arith in
        let w : end ≡ record { empty = at + hs.empty; next = at + n } = cc in
        record {
          headers = hs;
          taken = n;
          reads = q;
          start = ap (λ (h : HeaderEnd). h.empty) w;
          ends = ap (λ (h : HeaderEnd). h.next) w;
          here = subst (λ (i : ℕ). LinesHere file at limit hs.empty i true 0 hs.lines) b
              (lines-here file at limit f true 0 hs n
              (ap (λ (i : ℕ). header_lines limit f true 0 (drop i file)) a ∙ q));
        }
