-- A header and the lines that continue it, as the code walks them: where each line's text ends, where its name does,
-- and what the walk has passed. Assumes nothing.
use mathlib.Core.Path.{◌≡◌, refl, sym, ap, ◌∙◌, subst}
use Rattle.std.specs.Prelude.{Option, None, Some, slice_range}
use mathlib.Core.Bool.{Bool, true, false, cond, not}
use mathlib.Core.List.{List, [], ◌∷◌, ◌++◌, append_assoc}
use Prim.Native.Nat.{ℕ, zero, suc, ◌+◌, ◌-◌, ◌≤◌, ◌<◌}
use native.Mathlib.Omega.{arith}
use borrow.Author.Tests.{eqb-true, ltb-true, ltb-false}
use lib.Dec.{eqb, ltb}
use lib.ListN.{length, take, drop, get_or, length-drop}
use lib.Seq.{slice, length-slice, drop-drop, get_or-drop}
use Rattle.cbf_walk.specs.Parsers.{Res, bad, cut, ok, hd}
use Rattle.cbf_walk.proofs.ParserLaws.{bad≢ok, cut≢ok, ok-val, ok-num}
use Rattle.cbf_format.specs.Text.{blank, textual, trim}
use Rattle.cbf_format.specs.Lines.{end_length, line_or, line, refused_byte}
use Rattle.cbf_format.specs.Headers.{name_byte, add_name, split_colon, malformed, or_malformed, continues, group}
use Rattle.cbf_lines.specs.Text.{Run}
use Rattle.cbf_lines.specs.Line.{end_from}
use Rattle.cbf_values.specs.Value.{joined}
use Rattle.cbf_headers.specs.HeaderParts.{LineHere, LinesHere, Fresh, HeadersHere, HeaderParts}
use Rattle.cbf_format.proofs.Slices.{slice-take, slice-part}
use Rattle.cbf_lines.proofs.TextLaws.{name-no-colon, get_or-slice}
use Rattle.cbf_lines.proofs.LineLaws.{line-good, end-moves}
use Rattle.cbf_headers.proofs.HeadersLaws.{lines-low, lines_end, lines_none, LineLeft, lines-some, here-formed}
use Rattle.cbf_headers.proofs.GroupingLaws.{Continued, alone, continued-more, texts, header-lies, header-name}
use Rattle.cbf_headers.proofs.GroupingLaws.{Formed, fresh-text, colon-split}

-- ---- where a run ends

-- no colon
abbrev pub no_colon : ℕ → Bool
no_colon x = not (eqb x 58)

-- at the first byte that fails the test
pub run_ends : {test : ℕ → Bool} {file : List ℕ} {from to r : ℕ} → Run test file from to r → (e : ℕ) → from ≤ e → e < to
    → ((j : ℕ) → from ≤ j → j < e → test (get_or file j 0) ≡ true) → test (get_or file e 0) ≡ false → r ≡ e
run_ends {test} {file} {from} {to} {r} run e low lt each stop = go (ltb r e) (ltb e r) refl refl
  where
    not-both : (k : ℕ) → test (get_or file k 0) ≡ true → test (get_or file k 0) ≡ false → ⊥
    not-both k p q = cc

    go : (a b : Bool) → ltb r e ≡ a → ltb e r ≡ b → r ≡ e
    go true b p q = let l = ltb-true r e p in absurd (not-both r (each r run.low l) (run.stops (omega arith)))
    go false true p q = absurd (not-both e (run.each e low (ltb-true e r q)) stop)
    go false false p q = omega (arith, ltb-false r e p, ltb-false e r q)

-- ---- a line that ends before the file does

pub textual-all : (limit i : ℕ) (t : List ℕ) → refused_byte limit i t ≡ None → (j : ℕ) → j < length t
    → textual (get_or t j 0) ≡ true
textual-all limit i [] e j h = absurd (omega arith)
textual-all limit i (x ∷ t) e j h = go (textual x) (ltb i limit) refl e (λ q k l. textual-all limit (suc i) t q k l) j h
  where
    go : (a b : Bool) → textual x ≡ a
        → cond a (cond b (refused_byte limit (suc i) t) (Some (2, i))) (Some (3, i)) ≡ None
        → (refused_byte limit (suc i) t ≡ None → (k : ℕ) → k < length t → textual (get_or t k 0) ≡ true)
        → (j : ℕ) → j < suc (length t) → textual (get_or (x ∷ t) j 0) ≡ true
    go false b p q rest j h = cc
    go true false p q rest j h = cc
    go true true p q rest zero h = p
    go true true p q rest (suc j) h = rest q j (omega arith)

-- the line end of a line with the text t, taken with n bytes
pub record Ended (s t : List ℕ) (n : ℕ) : Type 0 where
  pub stops : textual (get_or s (length t) 0) ≡ false
  pub ends : (at : ℕ) → at + n ≡ end_from (at + length t) (drop (length t) s)
  pub short : length t < n

pub ended : (s t : List ℕ) (n : ℕ) → line s ≡ ok t n → n < length s → Ended s t n
ended [] t n e h = absurd (omega arith)
ended (x ∷ xs) t n e h = go (eqb x 10) (eqb x 13) refl refl (line xs) (λ t n e h. ended xs t n e h) e
  where
    go : (a b : Bool) → eqb x 10 ≡ a → eqb x 13 ≡ b → (r : Res (List ℕ))
        → ((t : List ℕ) (n : ℕ) → r ≡ ok t n → n < length xs → Ended xs t n)
        → line_or a b x xs r ≡ ok t n → Ended (x ∷ xs) t n
    go true b p q r rest e =
        let z : x ≡ 10 = eqb-true x 10 p in
        let w : ◌≡◌ {A = ℕ × List ℕ} (1, []) (n, t) = (λ i. (ok-num e i, ok-val e i)) in
        subst (λ (k : ℕ × List ℕ). Ended (x ∷ xs) k.1 k.0) w
        (record {
          stops = ap textual z;
          ends = λ at. let u : at + 0 + 1 ≡ at + 1 = omega arith in
              sym (ap (λ (y : ℕ). end_from (at + 0) (y ∷ xs)) z ∙ u);
          short = omega arith;
        })
    go false true p q r rest e =
        let z : x ≡ 13 = eqb-true x 13 q in
        let w : ◌≡◌ {A = ℕ × List ℕ} (end_length (hd xs), []) (n, t) = (λ i. (ok-num e i, ok-val e i)) in
        subst (λ (k : ℕ × List ℕ). Ended (x ∷ xs) k.1 k.0) w
        (record {
          stops = ap textual z;
          ends = λ at. let u : at + 0 ≡ at = omega arith in
              sym (ap (λ (y : ℕ). end_from (at + 0) (y ∷ xs)) z ∙ ap (λ (y : ℕ). y + end_length (hd xs)) u);
          short = end-moves (hd xs);
        })
    go false false p q (bad k j) rest e = absurd (bad≢ok e)
    go false false p q cut rest e = absurd (cut≢ok e)
    go false false p q (ok t' n') rest e =
        let w : ◌≡◌ {A = ℕ × List ℕ} (suc n', x ∷ t') (n, t) = (λ i. (ok-num e i, ok-val e i)) in
        let v : suc n' ≡ n = ok-num e in
        let g = rest t' n' refl (omega arith) in
        subst (λ (k : ℕ × List ℕ). Ended (x ∷ xs) k.1 k.0) w
        (record {
          stops = g.stops;
          ends = λ at.
              let a : at + suc n' ≡ suc at + n' = omega arith in
              let b : suc at + length t' ≡ at + suc (length t') = omega arith in
              a ∙ g.ends (suc at) ∙ ap (λ (y : ℕ). end_from y (drop (length t') xs)) b;
          short = omega (arith, g.short);
        })

-- ---- a line with a name

pub record Named (t name : List ℕ) : Type 0 where
  pub each : (j : ℕ) → j < length name → name_byte (get_or t j 0) ≡ true
  pub colon : get_or t (length name) 0 ≡ 58
  pub short : length name < length t

pub named : (t : List ℕ) (nv : List ℕ × List ℕ) → split_colon t ≡ Some nv → Named t nv.0
named [] nv e = cc
named (x ∷ t) nv e = go (eqb x 58) (name_byte x) refl refl (split_colon t) (λ nv e. named t nv e) e
  where
    go : (a b : Bool) → eqb x 58 ≡ a → name_byte x ≡ b → (r : Option (List ℕ × List ℕ))
        → ((nv : List ℕ × List ℕ) → r ≡ Some nv → Named t nv.0)
        → cond a (Some ([], t)) (cond b (add_name x r) None) ≡ Some nv → Named (x ∷ t) nv.0
    go true b p q r rest e =
        let w : ([], t) ≡ nv = cc in
        subst (λ (k : List ℕ × List ℕ). Named (x ∷ t) k.0) w
        (record { each = λ j h. absurd (omega arith); colon = eqb-true x 58 p; short = omega arith })
    go false false p q r rest e = cc
    go false true p q None rest e = cc
    go false true p q (Some mv) rest e =
        let w : (x ∷ mv.0, mv.1) ≡ nv = cc in
        let g = rest mv refl in
        subst (λ (k : List ℕ × List ℕ). Named (x ∷ t) k.0) w
        (record { each = here g; colon = g.colon; short = omega (arith, g.short) })
      where
        here : Named t mv.0 → (j : ℕ) → j < suc (length mv.0) → name_byte (get_or (x ∷ t) j 0) ≡ true
        here g zero h = q
        here g (suc j) h = g.each j (omega arith)

has-name : (first : Bool) (t : List ℕ) → 0 < length t → malformed first t ≡ false → continues t ≡ false
    → (nv : List ℕ × List ℕ) × (split_colon t ≡ Some nv)
has-name first [] h m c = absurd (omega arith)
has-name first (x ∷ t) h m c = header-name first x t m c

continues-first : (t : List ℕ) → 0 < length t → continues t ≡ blank (get_or t 0 0)
continues-first [] h = absurd (omega arith)
continues-first (x ∷ t) h = refl

-- ---- a header line at a place of the file, before the empty line at empty

record Stands (file : List ℕ) (p empty : ℕ) (t : List ℕ) (n : ℕ) : Type 0 where
  reads : line (drop p file) ≡ ok t n
  each : (j : ℕ) → j < length t → textual (get_or t j 0) ≡ true
  inside : p + n ≤ empty
  before : empty < length file

accepted : (limit : ℕ) (first : Bool) (t : List ℕ) → or_malformed (refused_byte limit 0 t) (malformed first t) ≡ None
    → refused_byte limit 0 t ≡ None
accepted limit first t = go (refused_byte limit 0 t)
  where
    go : (o : Option (ℕ × ℕ)) → or_malformed o (malformed first t) ≡ None → o ≡ None
    go None e = refl
    go (Some k) e = cc

stands : (file : List ℕ) (at limit empty after : ℕ) (first : Bool) (m : ℕ) (l : ℕ × List ℕ) (ls : List (ℕ × List ℕ))
    (h : LineHere file at limit first m l)
    → LinesHere file at limit empty after false (m + h.taken) ls → (p e : ℕ) → p ≡ at + m → e ≡ at + empty
    → Stands file p e l.1 h.taken
stands file at limit empty after first m l ls h on p e q w =
    let v = lines_end file at limit empty after false (m + h.taken) ls on in
    record {
      reads = ap (λ (k : ℕ). line (drop k file)) q ∙ h.reads;
      each = textual-all limit 0 l.1 (accepted limit first l.1 h.passes);
      inside = omega (arith, lines-low file at limit empty after false (m + h.taken) ls on);
      before = omega (arith, v.0, v.1);
    }

module _ (file : List ℕ) (p empty : ℕ) (t : List ℕ) (n : ℕ) (s : Stands file p empty t n) where
  line-ended : Ended (drop p file) t n
  line-ended = ended (drop p file) t n s.reads (omega (arith, s.inside, s.before, length-drop p file))

  line-text : slice p (p + length t) file ≡ t
  line-text =
      let g = line-good (drop p file) in
      let e : g.0 ≡ t = ok-val (sym g.2.reads ∙ s.reads) in
      slice-take file p (length t) (omega (arith, s.inside, s.before))
      ∙ subst (λ (l : List ℕ). take (length l) (drop p file) ≡ l) e g.2.front

  line-byte : (j : ℕ) → p ≤ j → j < p + length t → get_or file j 0 ≡ get_or t (j - p) 0
  line-byte j h k =
      let q : j ≡ p + (j - p) = omega arith in
      ap (λ (i : ℕ). get_or file i 0) q ∙ sym (get_or-slice p (p + length t) file (j - p) (omega arith))
      ∙ ap (λ (l : List ℕ). get_or l (j - p) 0) line-text

  -- text bytes from a place of the line on end where its text does
  text-ends : (a r : ℕ) → p ≤ a → a ≤ p + length t → Run textual file a empty r → r ≡ p + length t
  text-ends a r low high run =
      let d = line-ended in
      run_ends run (p + length t) high (omega (arith, d.short, s.inside))
      (λ j h k. ap textual (line-byte j (omega arith) k) ∙ s.each (j - p) (omega arith))
      (ap textual (sym (get_or-drop p file (length t) 0)) ∙ d.stops)

  line-ends : (r next : ℕ) → r ≡ p + length t → next ≡ end_from r (drop r file) → next ≡ p + n
  line-ends r next e w =
      w
      ∙ ap (λ (k : ℕ). end_from k (drop k file)) e
      ∙ ap (end_from (p + length t)) (sym (drop-drop (length t) p file))
      ∙ sym (line-ended.ends p)

  -- where the name ends: at the first colon
  module _ (nv : List ℕ × List ℕ) (e : split_colon t ≡ Some nv) (r : ℕ) (run : Run no_colon file p empty r) where
    name-byte : (j : ℕ) → p ≤ j → j < p + length nv.0 → name_byte (get_or file j 0) ≡ true
    name-byte j h l = let g = named t nv e in
        ap name_byte (line-byte j h (omega (arith, g.short))) ∙ g.each (j - p) (omega arith)

    colon-byte : get_or file (p + length nv.0) 0 ≡ 58
    colon-byte =
        let g = named t nv e in
        let k : p + length nv.0 - p ≡ length nv.0 = omega arith in
        line-byte (p + length nv.0) (omega arith) (omega (arith, g.short)) ∙ ap (λ (i : ℕ). get_or t i 0) k ∙ g.colon

    name-ends : (r ≡ p + length nv.0) × (r < p + length t)
    name-ends =
        let g = named t nv e in
        let d = line-ended in
        let q : r ≡ p + length nv.0 =
        run_ends run (p + length nv.0) (omega arith) (omega (arith, g.short, d.short, s.inside))
        (λ j h l. name-no-colon (get_or file j 0) (name-byte j h l)) (ap no_colon colon-byte) in
        (q, omega (arith, g.short))

    name-splits : split_colon t ≡ Some (slice p r file, slice (r + 1) (p + length t) file)
    name-splits =
        let w = name-ends in
        let c : get_or file r 0 ≡ 58 = ap (λ (i : ℕ). get_or file i 0) w.0 ∙ colon-byte in
        let d = line-ended in
        ap split_colon (sym line-text)
        ∙ colon-split file (p + length t) (omega (arith, d.short, s.inside, s.before)) r w.1 c p
        (record {
          low = run.low;
          high = omega (arith, w.1);
          each = λ j h l. name-byte j h (omega (arith, w.0));
          stops =
              λ h. ap name_byte c;
        })

-- ---- the walk over a header's lines

-- the lines up to next are the header's first line and lines that continue it
pub record Walked {file : List ℕ} {from empty : ℕ} (h : HeadersHere file from empty) (colon to next : ℕ) : Type 0 where
  pub text : List ℕ
  pub value : List ℕ
  pub more : List (ℕ × List ℕ)
  pub rest : List (ℕ × List ℕ)
  pub all : h.lines ≡ (h.m, text) ∷ (more ++ rest)
  pub plain : continues text ≡ false
  pub splits : split_colon text ≡ Some (slice from colon file, value)
  pub lies : Continued (drop from file) text (texts more) (to - from) (next - from)
  pub here : LinesHere file h.at h.limit h.e h.after false (next - h.at) rest
  pub low : from ≤ colon
  pub short : colon + 1 ≤ to
  pub order : to ≤ next
  pub high : next ≤ empty

lines-formed : (file : List ℕ) (at limit empty after : ℕ) (first : Bool) (m : ℕ) (ls : List (ℕ × List ℕ))
    → LinesHere file at limit empty after first m ls → Formed first ls
lines-formed file at limit empty after first m [] h = tt
lines-formed file at limit empty after first m ((i, []) ∷ ls) h = absurd (let z : ⊥ = omega (arith, h.0.some_text) in z)
lines-formed file at limit empty after first m ((i, x ∷ t) ∷ ls) h = (
  here-formed file at limit first m (i, x ∷ t) h.0,
  lines-formed file at limit empty after false (m + h.0.taken) ls h.1,
)

texts-more : (more : List (ℕ × List ℕ)) (l : ℕ × List ℕ) → texts (more ++ (l ∷ [])) ≡ texts more ++ (l.1 ∷ [])
texts-more [] l = refl
texts-more (k ∷ more) l = ap (λ (z : List (List ℕ)). k.1 ∷ z) (texts-more more l)

module _ {file : List ℕ} {from empty : ℕ} (h : HeadersHere file from empty) where
  module _ {colon to next : ℕ} where
    pub walk_first : from < empty → Run no_colon file from empty colon → Run textual file colon empty to
        → next ≡ end_from to (drop to file) → Walked h colon to next
    walk_first lt colon-run text-run e = go (lines-some file h.at h.limit h.e h.after h.first h.m
        h.lines h.here (omega (arith, h.is_from, h.is_empty)))
      where
        go : LineLeft file h.at h.limit h.e h.after h.first h.m h.lines → Walked h colon to next
        go l =
            let t = l.this.1 in
            let n = l.here.taken in
            let s = stands file h.at h.limit h.e h.after h.first h.m l.this l.others l.here
            l.on from empty h.is_from h.is_empty in
            let plain : continues t ≡ false = subst (λ (ls : List (ℕ × List ℕ)). Fresh ls) l.all h.fresh in
            let nv =
            has-name h.first t l.here.some_text (here-formed file h.at h.limit h.first h.m l.this l.here) plain in
            let c = name-ends file from empty t n s nv.0 nv.1 colon colon-run in
            let a : to ≡ from + length t =
            text-ends file from empty t n s colon to colon-run.low (omega (arith, c.1)) text-run in
            let b : next ≡ from + n = line-ends file from empty t n s to next a e in
            let d = line-ended file from empty t n s in
            let x : length t ≡ to - from = omega arith in
            let y : n ≡ next - from = omega arith in
            let z : h.m + n ≡ next - h.at = omega (arith, h.is_from) in
            record {
              text = t;
              value = slice (colon + 1) (from + length t) file;
              more = [];
              rest = l.others;
              all = l.all ∙ ap (λ (i : ℕ). (i, t) ∷ l.others) l.here.place;
              plain = plain;
              splits = name-splits file from empty t n s nv.0 nv.1 colon colon-run;
              lies = subst (λ (k : ℕ × ℕ). Continued (drop from file) t [] k.0 k.1) (λ i. (x i, y i)) (alone s.reads);
              here = subst (λ (k : ℕ). LinesHere file h.at h.limit h.e h.after false k l.others) z l.on;
              low = colon-run.low;
              short = omega (arith, c.1);
              order = omega (arith, d.short);
              high = omega (arith, s.inside);
            }

    module _ (w : Walked h colon to next) where
      at_low : h.at ≤ next
      at_low = omega (arith, h.is_from, w.low, w.short, w.order)

      left : next < empty → LineLeft file h.at h.limit h.e h.after false (next - h.at) w.rest
      left lt =
          lines-some file h.at h.limit h.e h.after false (next - h.at) w.rest w.here (omega (arith, at_low, h.is_empty))

      -- the next line, where it stands
      next-stands : (l : LineLeft file h.at h.limit h.e h.after false (next - h.at) w.rest)
          → Stands file next empty l.this.1 l.here.taken
      next-stands l = stands file h.at h.limit h.e h.after false (next - h.at) l.this l.others
          l.here l.on next empty (omega (arith, at_low)) h.is_empty

      next-continues : (l : LineLeft file h.at h.limit h.e h.after false (next - h.at) w.rest)
          → continues l.this.1 ≡ blank (get_or file next 0)
      next-continues l =
          let s = next-stands l in
          let p = l.here.some_text in
          let z : next - next ≡ 0 = omega arith in
          continues-first l.this.1 p
          ∙ ap blank (sym (line-byte file next empty l.this.1 l.here.taken s next (omega arith) (omega arith)
          ∙ ap (λ (i : ℕ). get_or l.this.1 i 0) z))

      pub walk_more : next < empty → blank (get_or file next 0) ≡ true → {to' next' : ℕ} → Run textual file next empty
          to' → next' ≡ end_from to' (drop to' file) → Walked h colon to' next'
      walk_more lt bl {to'} {next'} run e = go (left lt)
        where
          go : LineLeft file h.at h.limit h.e h.after false (next - h.at) w.rest → Walked h colon to' next'
          go l =
              let t = l.this.1 in
              let n = l.here.taken in
              let s = next-stands l in
              let a : to' ≡ next + length t =
              text-ends file next empty t n s next to' (omega arith) (omega arith) run in
              let b : next' ≡ next + n = line-ends file next empty t n s to' next' a e in
              let d = line-ended file next empty t n s in
              let f : from ≤ next = omega (arith, w.low, w.short, w.order) in
              let o : from + (next - from) ≡ next = omega arith in
              let x : next - from + length t ≡ to' - from = omega arith in
              let y : next - from + n ≡ next' - from = omega arith in
              let z : next - h.at + n ≡ next' - h.at = omega (arith, at_low) in
              let v = continued-more w.lies t n (ap line (drop-drop (next - from) from file
              ∙ ap (λ (k : ℕ). drop k file) o) ∙ s.reads) (next-continues l ∙ bl) in
              record {
                text = w.text;
                value = w.value;
                more = w.more ++ (l.this ∷ []);
                rest = l.others;
                all = w.all
                    ∙ ap (λ (ls : List (ℕ × List ℕ)). (h.m, w.text) ∷ ls)
                    (ap (λ (ls : List (ℕ × List ℕ)). w.more ++ ls) l.all
                    ∙ sym (append_assoc w.more (l.this ∷ []) l.others));
                plain = w.plain;
                splits = w.splits;
                lies = subst (λ (cs : List (List ℕ)). Continued (drop from file) w.text cs (to' - from)
                    (next' - from)) (sym (texts-more w.more l.this))
                    (subst (λ (k : ℕ × ℕ). Continued (drop from file) w.text (texts w.more ++ (t ∷ [])) k.0 k.1)
                    (λ i. (x i, y i)) v);
                here = subst (λ (k : ℕ). LinesHere file h.at h.limit h.e h.after false k l.others) z l.on;
                low = w.low;
                short = omega (arith, w.short, w.order);
                order = omega (arith, d.short);
                high = omega (arith, s.inside);
              }

      -- the header ends here
      walk-done : Fresh w.rest
          → HeaderParts file from empty h (slice_range file from colon) (slice_range file (colon + 1) to) next
      walk-done fresh =
          let b = h.inside in
          let x : from + suc (length (slice from colon file)) ≡ colon + 1 =
          omega (arith, w.low, length-slice from colon file (omega (arith, w.short, w.order, w.high))) in
          let y : from + (to - from) ≡ to = omega (arith, w.low, w.short) in
          let parted : slice (from + suc (length (slice from colon file))) (from + (to - from)) file ≡ slice_range file
          (colon + 1) to =
          (λ i. slice (x i) (y i) file) ∙ slice-part file (colon + 1) to w.short (omega (arith, w.order, w.high)) in
          record {
            rest = w.rest;
            grouped = ap group w.all
                ∙ header-lies h.m w.text (slice from colon file) w.value w.plain w.splits file from
                (omega (arith, w.low, w.short, w.order, w.high)) w.more w.lies w.rest
                (fresh-text false w.rest (lines-formed file h.at h.limit h.e h.after false (next - h.at) w.rest w.here)
                fresh)
                ∙ (λ i. record {
                  headers = record {
                    at = h.m;
                    name = slice-part file from colon w.low (omega (arith, w.short, w.order, w.high)) i;
                    value = trim (joined (parted i));
                  } ∷ (group w.rest).headers;
                  text = [];
                });
            here = w.here;
            fresh = fresh;
            moves = omega (arith, w.low, w.short, w.order);
            next_in = w.high;
          }

      -- at a line that continues nothing
      pub walk-stop : next < empty → blank (get_or file next 0) ≡ false
          → HeaderParts file from empty h (slice_range file from colon) (slice_range file (colon + 1) to) next
      walk-stop lt bl = let l = left lt in
          walk-done (subst (λ (ls : List (ℕ × List ℕ)). Fresh ls) (sym l.all) (next-continues l ∙ bl))

      -- at the empty line
      pub walk_end : empty ≤ next
          → HeaderParts file from empty h (slice_range file from colon) (slice_range file (colon + 1) to) next
      walk_end le =
          let e = lines_none file h.at h.limit h.e h.after false (next - h.at) w.rest w.here
          (omega (arith, h.is_empty)) in
          walk-done (subst (λ (ls : List (ℕ × List ℕ)). Fresh ls) (sym e) tt)
