-- A step of reading is tame and moves, and what it says; reading gives a tree exactly where it is good and put
-- together is the file. Assumes nothing.
use mathlib.Core.Path.{◌≡◌, refl, sym, ap, ◌∙◌}
use Rattle.std.specs.Prelude.{Option, None, Some}
use Rattle.std.proofs.lemmas.Option.{none-some}
use mathlib.Core.Bool.{Bool, true, false, ◌&&◌, cond}
use mathlib.Core.List.{List, [], ◌∷◌, ◌++◌}
use Prim.Native.Nat.{ℕ, suc, ◌+◌, ◌≤◌, ◌<◌}
use native.Mathlib.Nat.{not-suc-le-zero}
use native.Mathlib.Omega.{arith}
use lib.Dec.{leb}
use borrow.Author.Tests.{le-leb, leb-true, leb-false}
use lib.ListN.{length, drop}
use Rattle.cbf_walk.specs.Parsers.{Res, ok, Parser, hd, ret, counted, screen, bind}
use Rattle.cbf_walk.proofs.Tame.{Tame, Moves}
use Rattle.cbf_walk.specs.Reading.{refused, good, flat, read_f}
use Rattle.cbf_walk.proofs.Good.{Good}
use Rattle.cbf_walk.proofs.Sections.{Spans}
use Rattle.cbf_walk.proofs.ParserLaws.{Unbound, ok-val, ok-num, unbind, bind-tame, bind-moves, ret-tame, uncount}
use Rattle.cbf_walk.proofs.ParserLaws.{counted-tame, counted-moves, unscreen, screen-tame, screen-moves}
use Rattle.cbf_walk.proofs.ReadingLaws.{refused≢good, sound, complete}
use Rattle.cbf_walk.proofs.SectionLaws.{spans}
use Rattle.cbf_format.specs.Text.{same}
use Rattle.cbf_format.specs.Lines.{line, refused_byte, text_line}
use Rattle.cbf_format.specs.Sections.{opening, Section, section}
use Rattle.cbf_answers.specs.Limits.{file_limit}
use Rattle.cbf_format.specs.Files.{refused_first, Field, first_line, outside, opened, inside, State, start, due}
use Rattle.cbf_format.specs.Files.{after_line, after_section, is_opened, is_boundary, one_too_many, step_line}
use Rattle.cbf_format.specs.Files.{section_or, after_step_line, step, Tree, read_some, read}
use Rattle.cbf_format.specs.Listing.{Placed, add_placed, sections}
use Rattle.cbf_format.proofs.LineTame.{line-tame, line-pos, line-hd, text_line-tame, and-true, same-eq}
use Rattle.cbf_format.proofs.SectionTame.{section-tame}
use Rattle.cbf_format.proofs.SectionLaws.{Closes, closes-later, data-says, Sectioned, sectioned}

-- ---- a step is tame, and moves

pub step_line-tame : (limit : ℕ) (f : Field) → Tame (step_line limit f)
step_line-tame limit first_line = screen-tame (refused_first limit) line-tame
step_line-tame limit outside = text_line-tame limit
step_line-tame limit (opened m) = text_line-tame limit
step_line-tame limit (inside m) = text_line-tame limit

-- it is a line
pub step_line-line : (limit : ℕ) (f : Field) (s t : List ℕ) (n : ℕ) → step_line limit f s ≡ ok t n → line s ≡ ok t n
unfolding text_line
step_line-line limit first_line s t n e = (unscreen (refused_first limit) (line s) t n e).0
step_line-line limit outside s t n e = (unscreen (refused_byte limit 0) (line s) t n e).0
step_line-line limit (opened m) s t n e = (unscreen (refused_byte limit 0) (line s) t n e).0
step_line-line limit (inside m) s t n e = (unscreen (refused_byte limit 0) (line s) t n e).0

-- the line of a step with its length, where it opens no 513th section
abbrev pub line_of : ℕ → State → Parser (List ℕ × ℕ)
line_of limit st s = counted (screen (one_too_many st) (step_line limit st.field s))

pub step-tame : (limit : ℕ) (st : State) → Tame (step limit st)
unfolding step
step-tame limit st =
    bind-tame (line_of limit st) (after_step_line limit st) (counted-tame (screen-tame (one_too_many st) (step_line-tame limit st.field)))
    (λ tn. either (is_boundary st tn.0) tn)
  where
    after : Section → Parser (Option Section × State)
    after i = ret (Some i, after_section st)

    either : (b : Bool) (tn : List ℕ × ℕ) → Tame (section_or b (bind (section limit st.block tn.1) after) (ret (None, after_line st tn.0 tn.1)))
    either true tn = bind-tame (section limit st.block tn.1) after (section-tame limit st.block tn.1) (λ i. ret-tame (Some i, after_section st))
    either false tn = ret-tame (None, after_line st tn.0 tn.1)

pub step-moves : (limit : ℕ) (st : State) → Moves (step limit st)
unfolding step
step-moves limit st =
    bind-moves (line_of limit st) (after_step_line limit st)
    (counted-moves (λ s. screen (one_too_many st) (step_line limit st.field s))
    (screen-moves (one_too_many st) (step_line limit st.field) (λ x xs t n e. line-pos x xs t n (step_line-line limit st.field (x ∷ xs) t n e))))

-- ---- what a step says

-- a step over a line of the file
pub record Passed (limit : ℕ) (st t : State) (s : List ℕ) (n : ℕ) : Type 0 where
  pub text : List ℕ
  pub is_line : step_line limit st.field s ≡ ok text n
  pub is_other : is_boundary st text ≡ false
  pub after : t ≡ after_line st text n

-- a step over a section, whose boundary line has `top` bytes
pub record Took (limit : ℕ) (st t : State) (s : List ℕ) (i : Section) (n : ℕ) : Type 0 where
  pub is_opened : is_opened st.field ≡ true
  pub has_room : st.count < 512
  pub after : t ≡ after_section st
  pub name : i.block ≡ st.block
  pub starts : hd s ≡ Some 45
  pub top : ℕ
  pub rest : ℕ
  pub sum : top + rest ≡ n
  pub is_line : line s ≡ ok opening top
  pub parts : Sectioned limit st.block top (drop top s) i rest
  pub lead : i.first ≤ i.width
  pub closes : Closes limit s i.width n

-- not refused as the 513th
has-room-of : (b c : Bool) → b ≡ true → cond {A = Option (ℕ × ℕ)} (b && c) (Some (4, 0)) None ≡ None → c ≡ false
has-room-of true true q e = absurd (none-some (4, 0) (sym e))
has-room-of true false q e = refl
has-room-of false c q e = let z : ◌≡◌ {A = ℕ} 0 1 = cc in absurd (omega arith)

module _ (limit : ℕ) (st t : State) (s : List ℕ) where
  abbrev after : Section → Parser (Option Section × State)
  after i = ret (Some i, after_section st)

  abbrev U₁ : Option Section → ℕ → Type 0
  U₁ o n = Unbound (line_of limit st) (after_step_line limit st) s (o, t) n

  -- the line of a step
  record Lined (tn : List ℕ × ℕ) (n : ℕ) : Type 0 where
    is_line : step_line limit st.field s ≡ ok tn.0 n
    count : tn.1 ≡ n
    room : one_too_many st tn.0 ≡ None

  lined : (tn : List ℕ × ℕ) (n : ℕ) → line_of limit st s ≡ ok tn n → Lined tn n
  lined tn n e = go (uncount (screen (one_too_many st) (step_line limit st.field s)) tn n e)
    where
      go : (screen (one_too_many st) (step_line limit st.field s) ≡ ok tn.0 n) × (tn.1 ≡ n) → Lined tn n
      go c = let u = unscreen (one_too_many st) (step_line limit st.field s) tn.0 n c.0 in record { is_line = u.0; count = c.1; room = u.1 }

  pub passed : (n : ℕ) → step limit st s ≡ ok (None, t) n → Passed limit st t s n
  unfolding step
  passed n e = go (unbind (line_of limit st) (after_step_line limit st) s (None, t) n e)
    where
      last : (u : U₁ None n) → is_boundary st u.val.0 ≡ false
          → ◌≡◌ {A = Res (Option Section × State)} (ok (None, after_line st u.val.0 u.val.1) 0) (ok (None, t) u.second)
          → Lined u.val u.first → Passed limit st t s n
      last u q h l =
          let z : 0 ≡ u.second = ok-num h in
          let at : u.first ≡ n = omega (arith, z, u.sum) in
          let a : after_line st u.val.0 u.val.1 ≡ t = ap (λ (o : Option Section × State). o.1) (ok-val h) in
          record {
            text = u.val.0;
            is_line = l.is_line ∙ ap (λ (k : ℕ). ok u.val.0 k) at;
            is_other = q;
            after = sym a ∙ ap (after_line st u.val.0) (l.count ∙ at);
          }

      by : (u : U₁ None n) (b : Bool) → is_boundary st u.val.0 ≡ b
          → section_or b (bind (section limit st.block u.val.1) after)
          (ret (None, after_line st u.val.0 u.val.1)) (drop u.first s) ≡ ok (None, t) u.second
          → Passed limit st t s n
      by u true q h =
          let v = unbind (section limit st.block u.val.1) after (drop u.first s) (None, t) u.second h in
          absurd (none-some v.val (sym (ap (λ (o : Option Section × State). o.0) (ok-val v.then_did))))
      by u false q h = last u q h (lined u.val u.first u.did)

      go : U₁ None n → Passed limit st t s n
      go u = by u (is_boundary st u.val.0) refl u.then_did

  pub took : (i : Section) (n : ℕ) → step limit st s ≡ ok (Some i, t) n → Took limit st t s i n
  unfolding step
  took i n e = go (unbind (line_of limit st) (after_step_line limit st) s (Some i, t) n e)
    where
      U₂ : U₁ (Some i) n → Type 0
      U₂ u = Unbound (section limit st.block u.val.1) after (drop u.first s) (Some i, t) u.second

      -- the widths of a section whose boundary line has k bytes
      spanned : (k m : ℕ) → k + m ≡ n → (c : Sectioned limit st.block k (drop k s) i m) → (i.first ≤ i.width) × Closes limit s i.width n
      spanned k m q c =
          let d = data-says limit i.description.encoding i.description.size (drop c.head (drop k s)) c.found c.rest c.did in
          let f : k + c.head + c.found.lead ≡ i.first = ap (λ (z : Section). z.first) c.is in
          let w : k + c.head + c.found.width ≡ i.width = ap (λ (z : Section). z.width) c.is in
          let nearer : Closes limit (drop k s) (c.head + c.found.width) (c.head + c.rest) = closes-later limit
          c.head (drop k s) d.closes refl refl in
          (omega (arith, f, w, d.lead), closes-later limit k s nearer (omega (arith, w)) (omega (arith, q, c.sum)))

      last : (u : U₁ (Some i) n) (v : U₂ u) → is_boundary st u.val.0 ≡ true → Lined u.val u.first
          → Sectioned limit st.block u.first (drop u.first s) i v.first → Took limit st t s i n
      last u v q l c =
          let z : 0 ≡ v.second = ok-num v.then_did in
          let b = and-true (is_opened st.field) (same u.val.0 opening) q in
          let sum : u.first + v.first ≡ n = omega (arith, z, u.sum, v.sum) in
          let is_line : line s ≡ ok opening u.first =
          step_line-line limit st.field s u.val.0 u.first l.is_line ∙ ap (λ (t : List ℕ). ok t u.first) (same-eq u.val.0 opening b.1) in
          let w = spanned u.first v.first sum c in
          record {
            is_opened = b.0;
            has_room = leb-false 512 st.count (has-room-of (is_boundary st u.val.0) (leb 512 st.count) q l.room);
            after = sym (ap (λ (o : Option Section × State). o.1) (ok-val v.then_did));
            name = sym (ap (λ (z : Section). z.block) c.is);
            starts = line-hd s 45 _ u.first is_line;
            top = u.first;
            rest = v.first;
            sum = sum;
            is_line = is_line;
            parts = c;
            lead = w.0;
            closes = w.1;
          }

      found : (u : U₁ (Some i) n) (v : U₂ u) → Lined u.val u.first → section limit st.block u.first (drop u.first s) ≡ ok i v.first
      found u v l =
          let q : Some v.val ≡ Some i = ap (λ (o : Option Section × State). o.0) (ok-val v.then_did) in
          let r : v.val ≡ i = cc in
          ap (λ (k : ℕ). section limit st.block k (drop u.first s)) (sym l.count) ∙ v.did ∙ ap (λ (z : Section). ok z v.first) r

      mid : (u : U₁ (Some i) n) (v : U₂ u) → is_boundary st u.val.0 ≡ true → Lined u.val u.first → Took limit st t s i n
      mid u v q l = last u v q l (sectioned limit st.block u.first (drop u.first s) i v.first (found u v l))

      by : (u : U₁ (Some i) n) (b : Bool) → is_boundary st u.val.0 ≡ b
          → section_or b (bind (section limit st.block u.val.1) after)
          (ret (None, after_line st u.val.0 u.val.1)) (drop u.first s) ≡ ok (Some i, t) u.second
          → Took limit st t s i n
      by u false q h = absurd (none-some i (ap (λ (o : Option Section × State). o.0) (ok-val h)))
      by u true q h = mid u (unbind (section limit st.block u.val.1) after (drop u.first s) (Some i, t)
          u.second h) q (lined u.val u.first u.did)

      go : U₁ (Some i) n → Took limit st t s i n
      go u = by u (is_boundary st u.val.0) refl u.then_did

-- ---- spans

-- a span lies in its item
pub span-in : (limit : ℕ) (st t : State) (b r : List ℕ) (i : Section) → step limit st (b ++ r) ≡ ok (Some i, t) (length b) → i.width ≤ length b
span-in limit st t b r i e = omega (arith, (took limit st t (b ++ r) i (length b) e).closes.sum)

-- ---- reading

-- what an accepted file is
pub record Accepts (limit : ℕ) (file : List ℕ) (its : Tree) : Type 0 where
  pub is_good : Good (step limit) due start its
  pub whole : flat its ≡ file
  pub not_empty : 0 < length file
  pub not_long : length file ≤ file_limit

pub accepted : (limit : ℕ) (file : List ℕ) (its : Tree) → read limit file ≡ good its → Accepts limit file its
unfolding read
accepted limit file its e = go (leb (length file) file_limit) refl e
  where
    nonempty : (s : List ℕ) → length s ≤ file_limit → read_some limit s ≡ good its → Accepts limit s its
    nonempty [] l h = absurd (refused≢good h)
    nonempty (x ∷ s) l h =
        let g = sound 11 (step limit) due (step-moves limit) (step-tame limit) file_limit 0 start (x ∷ s) its h in
        record { is_good = g.0; whole = g.1; not_empty = omega arith; not_long = l }

    go : (b : Bool) → leb (length file) file_limit ≡ b → cond b (read_some limit file) (refused 4 0) ≡ good its → Accepts limit file its
    go true q h = nonempty file (leb-true _ _ q) h
    go false q h = absurd (refused≢good h)

pub accepts : (limit : ℕ) (file : List ℕ) (its : Tree) → Accepts limit file its → read limit file ≡ good its
unfolding read
accepts limit file its a = rw (le-leb (length file) file_limit a.not_long) (nonempty file a.not_empty
    ∙ ap (read_f 11 (step limit) due file_limit 0 start) (sym a.whole)
    ∙ complete 11 (step limit) due its file_limit 0 start a.is_good (omega (arith, a.not_long, ap length a.whole)))
  where
    nonempty : (s : List ℕ) → 0 < length s → read_some limit s ≡ read_f 11 (step limit) due file_limit 0 start s
    nonempty [] h = absurd (not-suc-le-zero h)
    nonempty (x ∷ s) h = refl

-- the spans of an accepted file lie in its items
pub accepted-spans : (limit : ℕ) (file : List ℕ) (its : Tree) → Accepts limit file its → Spans (λ (i : Section). i.width) its
accepted-spans limit file its a = spans (λ (i : Section). i.width) (step limit) due (span-in limit) its start a.is_good

-- ---- "Sections: at most 512"

counts : (limit : ℕ) (its : Tree) (st : State) (at : ℕ) → Good (step limit) due st its → st.count ≤ 512
    → st.count + length (sections at its) ≤ 512
unfolding Good sections
counts limit [] st at g h = omega arith
counts limit (it ∷ its) st at g h = go it.info it.next g.0 (λ h. counts limit its it.next _ g.2 h)
  where
    rest : List Placed
    rest = sections (at + length it.bytes) its

    go : (o : Option Section) (t : State) → step limit st (it.bytes ++ flat its) ≡ ok (o, t) (length it.bytes)
        → (t.count ≤ 512 → t.count + length rest ≤ 512) → st.count + length (add_placed at o rest) ≤ 512
    go None t e ih =
        let p = passed limit st t (it.bytes ++ flat its) (length it.bytes) e in
        let c : t.count ≡ st.count = ap (λ (z : State). z.count) p.after in
        omega (arith, c, ih (omega (arith, c, h)))
    go (Some i) t e ih =
        let k = took limit st t (it.bytes ++ flat its) i (length it.bytes) e in
        let c : t.count ≡ suc st.count = ap (λ (z : State). z.count) k.after in
        omega (arith, c, ih (omega (arith, c, k.has_room)))

pub few-sections : (limit : ℕ) (file : List ℕ) (its : Tree) → read limit file ≡ good its → length (sections 0 its) ≤ 512
few-sections limit file its e =
    omega (arith, counts limit its start 0 (accepted limit file its e).is_good (omega arith))
