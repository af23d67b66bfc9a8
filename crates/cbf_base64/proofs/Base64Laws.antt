-- The check of BASE64 text against what the text decodes to. Assumes nothing.
use mathlib.Core.Path.{◌≡◌, refl, sym, ap, ◌∙◌, subst}
use Rattle.std.specs.Prelude.{Option, None, Some}
use mathlib.Core.Bool.{Bool, true, false, ◌&&◌, cond}
use mathlib.Core.List.{List, [], ◌∷◌, ◌++◌}
use mathlib.Core.Logic.{◌⊎◌, ⊎_elim, inl, inr}
use Prim.Native.Nat.{ℕ, zero, suc, ◌+◌, ◌*◌, ◌-◌, ◌/◌, ◌%◌, ◌<◌, ◌≤◌}
use native.Mathlib.Omega.{arith}
use lib.Dec.{eqb, leb}
use native.Mathlib.Numerals.{add-one}
use lib.ListN.{length, get_or}
use lib.Seq.{slice, slice-cons, slice_empty}
use borrow.Author.Tests.{eq-eqb, ne_eqb, eqb-true, eqb-false, leb-true, leb-false}
use Rattle.cbf_pixels.specs.Octets.{Octets}
use Rattle.cbf_format.specs.declared.Symbol.{Symbol}
use Rattle.cbf_format.specs.declared.Symbol.TheVariants.{Letter, Pad, Blank, Other}
use Rattle.cbf_format.specs.Base64.{symbol, add_symbol, add_symbols, add_octets, last_group, decode, sized}
use Rattle.cbf_format.proofs.Base64Laws.{Plain, letter, pad, Plains, no_symbol, more, OctetsIn, decode-octets}
use Rattle.cbf_base64.specs.declared.base64.Groups.{Groups}
use Rattle.cbf_lines.specs.Text.{Run, is_letter}
use Rattle.cbf_base64.specs.Base64.{add_symbol_to, add_letters_to, groups_from, groups_of, bytes_from, unused_zero}
use Rattle.cbf_base64.specs.Base64.{groups_hold, symbolic}

-- ---- the check's answer

and-true : (t : Bool) → (t && true) ≡ t
and-true true = refl
and-true false = refl

and-false : (t : Bool) → (t && false) ≡ false
and-false true = refl
and-false false = refl

module _ (g : Groups) (size : ℕ) where
  -- what is left of a whole text is its size, and its unused bits
  whole : (m : ℕ) → g.broken ≡ false → (g.letters + g.pads) % 4 ≡ 0 → g.letters * 3 / 4 ≡ m → groups_hold g size
      ≡ (eqb m size && unused_zero g.pads g.last)
  unfolding groups_hold
  whole m e d s = rw (e, eq-eqb ((g.letters + g.pads) % 4) 0 d, s)

  pub not-broken : g.broken ≡ true → groups_hold g size ≡ false
  unfolding groups_hold
  not-broken e = rw e

  pub not-part : ((g.letters + g.pads) % 4 ≡ 0 → ⊥) → groups_hold g size ≡ false
  unfolding groups_hold
  not-part d = rw (ne_eqb ((g.letters + g.pads) % 4) 0 d, and-false)

  pub not-padded : 2 < g.pads → groups_hold g size ≡ false
  unfolding groups_hold unused_zero
  not-padded h =
      rw (ne_eqb g.pads 0 (λ e. omega arith), ne_eqb g.pads 1 (λ e. omega arith), ne_eqb g.pads 2 (λ e. omega arith), and-false, and-false, and-false)

-- ---- what symbols after a state do to it

broken-letter : (t b : Bool) → b ≡ true → cond t b true ≡ true
broken-letter true b e = e
broken-letter false b e = refl

pub broken-stays : (g : Groups) (l : List Symbol) → g.broken ≡ true → (groups_from g l).broken ≡ true
unfolding groups_from
broken-stays g [] e = e
broken-stays g (Letter n ∷ l) e = broken-stays (add_symbol_to g (Letter n)) l (broken-letter (eqb g.pads 0) g.broken e)
broken-stays g (Pad ∷ l) e = broken-stays (add_symbol_to g Pad) l e
broken-stays g (Blank ∷ l) e = broken-stays g l e
broken-stays g (Other ∷ l) e = broken-stays g l e

pub total : (g : Groups) {l : List Symbol} → Plains l → (groups_from g l).letters + (groups_from g l).pads ≡ g.letters + g.pads + length l
unfolding groups_from
total g no_symbol = omega arith
total g (more (letter {n} h) p) = total (add_symbol_to g (Letter n)) p ∙ omega arith
total g (more pad p) = total (add_symbol_to g Pad) p ∙ omega arith

-- after a pad only pads can follow
pub padded : (g : Groups) {l : List Symbol} → 1 ≤ g.pads → Plains l → ((groups_from g l).broken ≡ true) ⊎ ((groups_from g l).pads ≡ g.pads + length l)
unfolding groups_from
padded g h no_symbol = inr (omega arith)
padded g h (more {l = l} (letter {n} k) p) =
    inl (broken-stays (add_symbol_to g (Letter n)) l (rw (ne_eqb g.pads 0 (λ e. omega arith))))
padded g h (more pad p) = ⊎_elim (λ e. inl e) (λ e. inr (e ∙ omega arith)) (padded (add_symbol_to g Pad) (omega arith) p)

-- a pad, and too many symbols after it
pub over : (g : Groups) (size : ℕ) {l : List Symbol} → 1 ≤ g.pads → Plains l → (g.pads + length l ≤ 2
    → (g.letters + g.pads + length l) % 4 ≡ 0 → ⊥) → groups_hold (groups_from g l) size ≡ false
over g size {l} h p far = ⊎_elim (λ e. not-broken (groups_from g l) size e) (λ e. go e (leb (groups_from g l).pads 2) refl) (padded g h p)
  where
    go : (groups_from g l).pads ≡ g.pads + length l → (b : Bool) → leb (groups_from g l).pads 2 ≡ b → groups_hold (groups_from g l) size ≡ false
    go e true q = not-part (groups_from g l) size (λ d. far (omega (arith, leb-true (groups_from g l).pads 2 q)) (ap (λ (n : ℕ). n % 4) (sym (total g p)) ∙ d))
    go e false q = not-padded (groups_from g l) size (leb-false (groups_from g l).pads 2 q)

-- ---- the check holds exactly where the text decodes to octets of the size

-- k groups, and these octets after them
abbrev pub sized_after : ℕ → ℕ → Option (List ℕ) → Bool
sized_after k size None = false
sized_after k size (Some os) = eqb (k * 3 + length os) size

module _ (size k : ℕ) where
  last-octets : (b : Bool) (os : List ℕ) → (eqb (k * 3 + length os) size && b) ≡ sized_after k size (last_group b os)
  last-octets true os = and-true (eqb (k * 3 + length os) size)
  last-octets false os = and-false (eqb (k * 3 + length os) size)

  three-octets : (a b c : ℕ) (o : Option (List ℕ)) → sized_after (suc k) size o ≡ sized_after k size (add_octets (a ∷ b ∷ c ∷ []) o)
  three-octets a b c None = refl
  three-octets a b c (Some os) =
      let e : suc k * 3 + length os ≡ k * 3 + suc (suc (suc (length os))) = omega arith in
      ap (λ (m : ℕ). eqb m size) e

-- a state after whole groups: n letters
abbrev start : ℕ → ℕ → Groups
start n x = record { letters = n; pads = 0; last = x; broken = false }

module _ (size k n x : ℕ) (e : n ≡ k * 4) where
  short : {l : List Symbol} → Plains l → (length l % 4 ≡ 0 → ⊥) → groups_hold (groups_from (start n x) l) size ≡ false
  short {l} p far = not-part (groups_from (start n x) l) size (λ d. far (omega (arith, total (start n x) p)))

  ended : groups_hold (groups_from (start n x) []) size ≡ sized_after k size (Some [])
  unfolding groups_from unused_zero
  ended = whole (start n x) size (k * 3 + 0) refl (omega arith) (omega arith) ∙ and-true (eqb (k * 3 + 0) size)

  four : {a b c d : Symbol} {l : List Symbol} → Plain a → Plain b → Plain c → Plain d → Plains l
      → ((y m : ℕ) → m ≡ suc k * 4 → groups_hold (groups_from (start m y) l) size ≡ sized_after (suc k) size (decode l))
      → groups_hold (groups_from (start n x) (a ∷ b ∷ c ∷ d ∷ l)) size ≡ sized_after k size (decode (a ∷ b ∷ c ∷ d ∷ l))
  unfolding groups_from decode unused_zero
  four pad b c d p ih = over (add_symbol_to (start n x) Pad) size (omega arith) (more b (more c (more d p))) (λ h r. omega arith)
  four (letter {n = a} ha) pad c d p ih =
      over (add_symbol_to (add_symbol_to (start n x) (Letter a)) Pad) size (omega arith) (more c (more d p)) (λ h r. omega arith)
  four {l = l} (letter {n = a} ha) (letter {n = b} hb) pad (letter {n = d} hd) p ih =
      not-broken (groups_from (start n x) (Letter a ∷ Letter b ∷ Pad ∷ Letter d ∷ l)) size
      (broken-stays (groups_from (start n x) (Letter a ∷ Letter b ∷ Pad ∷ Letter d ∷ [])) l refl)
  four (letter {n = a} ha) (letter {n = b} hb) pad pad no_symbol ih =
      whole (groups_from (start n x) (Letter a ∷ Letter b ∷ Pad ∷ Pad ∷ [])) size (k * 3 + 1) refl (omega arith) (omega arith)
      ∙ last-octets size k (eqb (b % 16) 0) ((a * 4 + b / 16) ∷ [])
  four (letter {n = a} ha) (letter {n = b} hb) pad pad (more s p) ih =
      over (groups_from (start n x) (Letter a ∷ Letter b ∷ Pad ∷ Pad ∷ [])) size (omega arith) (more s p) (λ h r. omega arith)
  four (letter {n = a} ha) (letter {n = b} hb) (letter {n = c} hc) pad no_symbol ih =
      whole (groups_from (start n x) (Letter a ∷ Letter b ∷ Letter c ∷ Pad ∷ [])) size (k * 3 + 2) refl (omega arith) (omega arith)
      ∙ last-octets size k (eqb (c % 4) 0) ((a * 4 + b / 16) ∷ (b % 16 * 16 + c / 4) ∷ [])
  four (letter {n = a} ha) (letter {n = b} hb) (letter {n = c} hc) pad (more s p) ih =
      over (groups_from (start n x) (Letter a ∷ Letter b ∷ Letter c ∷ Pad ∷ [])) size (omega arith) (more s p) (λ h r. omega arith)
  four {l = l} (letter {n = a} ha) (letter {n = b} hb) (letter {n = c} hc) (letter {n = d} hd) p ih =
      ih d (n + 1 + 1 + 1 + 1) (omega arith) ∙ three-octets size k (a * 4 + b / 16) (b % 16 * 16 + c / 4) (c % 4 * 64 + d) (decode l)

pub sized-after : (size k n x : ℕ) {l : List Symbol} → n ≡ k * 4 → Plains l → groups_hold (groups_from (start n x) l) size ≡ sized_after k size (decode l)
unfolding decode
sized-after size k n x e no_symbol = ended size k n x e
sized-after size k n x e (more a no_symbol) = short size k n x e (more a no_symbol) (λ r. omega arith)
sized-after size k n x e (more a (more b no_symbol)) = short size k n x e (more a (more b no_symbol)) (λ r. omega arith)
sized-after size k n x e (more a (more b (more c no_symbol))) = short size k n x e (more a (more b (more c no_symbol))) (λ r. omega arith)
sized-after size k n x e (more a (more b (more c (more d p)))) = four size k n x e a b c d p (λ y m f. sized-after size (suc k) m y f p)

-- ---- the check, and what the text stands for

pub record Decoded (size : ℕ) (l : List Symbol) : Type 0 where
  pub os : List ℕ
  pub decodes : decode l ≡ Some os
  pub fits : sized size (decode l) ≡ Some os
  pub count : length os ≡ size
  pub each : Octets os

module _ (size : ℕ) {l : List Symbol} (p : Plains l) where
  pub held-sized : groups_hold (groups_of l) size ≡ sized_after 0 size (decode l)
  unfolding groups_of
  held-sized = sized-after size 0 0 0 refl p

  pub held-decodes : groups_hold (groups_of l) size ≡ true → Decoded size l
  held-decodes h = go (decode l) refl (sym held-sized ∙ h) (decode-octets p)
    where
      go : (o : Option (List ℕ)) → decode l ≡ o → sized_after 0 size o ≡ true → OctetsIn o → Decoded size l
      go None q t k = let z : ◌≡◌ {A = ℕ} 0 1 = cc in absurd (omega arith)
      go (Some os) q t k =
          let e : length os ≡ size = omega (arith, eqb-true (0 * 3 + length os) size t) in
          record { os = os; decodes = q; fits = rw q (rw (eq-eqb (length os) size e)); count = e; each = k }

  pub sized-held : (os : List ℕ) → sized size (decode l) ≡ Some os → groups_hold (groups_of l) size ≡ true
  sized-held os h = held-sized ∙ go (decode l) h
    where
      go : (o : Option (List ℕ)) → sized size o ≡ Some os → sized_after 0 size o ≡ true
      go None h = let z : ◌≡◌ {A = ℕ} 0 1 = cc in absurd (omega arith)
      go (Some xs) h = test (eqb (length xs) size) refl h
        where
          test : (t : Bool) → eqb (length xs) size ≡ t → cond t (Some xs) None ≡ Some os → eqb (0 * 3 + length xs) size ≡ true
          test true q r = eq-eqb (0 * 3 + length xs) size (omega (arith, eqb-true (length xs) size q))
          test false q r = let z : ◌≡◌ {A = ℕ} 0 1 = cc in absurd (omega arith)

  pub not-held-sized : groups_hold (groups_of l) size ≡ false → sized size (decode l) ≡ None
  not-held-sized h = go (decode l) (sym held-sized ∙ h)
    where
      go : (o : Option (List ℕ)) → sized_after 0 size o ≡ false → sized size o ≡ None
      go None t = refl
      go (Some os) t = rw (ne_eqb (length os) size (λ e. eqb-false (0 * 3 + length os) size t (omega arith)))

-- ---- symbols one after another

pub groups-of : (l : List Symbol) → groups_of l ≡ groups_from (groups_of []) l
unfolding groups_of groups_from
groups-of l = refl

pub groups-append : (g : Groups) (l m : List Symbol) → groups_from g (l ++ m) ≡ groups_from (groups_from g l) m
unfolding groups_from
groups-append g [] m = refl
groups-append g (s ∷ l) m = groups-append (add_symbol_to g s) l m

pub groups-added : (g : Groups) (s : Symbol) (l : List Symbol) → groups_from g (add_symbol s l) ≡ groups_from (add_symbol_to g s) l
unfolding groups_from
groups-added g (Letter n) l = refl
groups-added g Pad l = refl
groups-added g Blank l = refl
groups-added g Other l = refl

-- a line's bytes in front of later symbols
pub groups-bytes : (g : Groups) (t : List ℕ) (l : List Symbol) → groups_from g (add_symbols t l) ≡ groups_from (bytes_from g t) l
unfolding bytes_from
groups-bytes g [] l = refl
groups-bytes g (x ∷ t) l = groups-added g (symbol x) (add_symbols t l) ∙ groups-bytes (add_symbol_to g (symbol x)) t l

-- the text from i up to `to` of a file
pub bytes_next : (g : Groups) (file : List ℕ) (i to : ℕ) → i < to → to ≤ length file → bytes_from g (slice i to file)
    ≡ bytes_from (add_symbol_to g (symbol (get_or file i 0))) (slice (i + 1) to file)
unfolding bytes_from
bytes_next g file i to h k = rw (add-one, slice-cons i to file 0 h k)

pub bytes-end : (g : Groups) (file : List ℕ) (to : ℕ) → bytes_from g (slice to to file) ≡ g
unfolding bytes_from
bytes-end g file to = rw slice_empty

pub symbol-count : (g : Groups) (s : Symbol) → (add_symbol_to g s).letters + (add_symbol_to g s).pads ≤ g.letters + g.pads + 1
symbol-count g (Letter n) = omega arith
symbol-count g Pad = omega arith
symbol-count g Blank = omega arith
symbol-count g Other = omega arith

-- ---- letters one after another: the last one's number counts

letter-number : (s : Symbol) → is_letter s ≡ true → (n : ℕ) × (s ≡ Letter n)
letter-number (Letter n) h = (n, refl)
letter-number Pad h = let z : ◌≡◌ {A = ℕ} 0 1 = cc in absurd (omega arith)
letter-number Blank h = let z : ◌≡◌ {A = ℕ} 0 1 = cc in absurd (omega arith)
letter-number Other h = let z : ◌≡◌ {A = ℕ} 0 1 = cc in absurd (omega arith)

broken-twice : (t b : Bool) → cond t (cond t b true) true ≡ cond t b true
broken-twice true b = refl
broken-twice false b = refl

one-letter : (g : Groups) (s : Symbol) → is_letter s ≡ true → add_letters_to g 1 s ≡ add_symbol_to g s
one-letter g s h = rw (letter-number s h).1

letter-more : (g : Groups) (n : ℕ) (s t : Symbol) → is_letter s ≡ true → is_letter t ≡ true → add_letters_to g (suc n) t ≡ add_letters_to (add_symbol_to g s) n t
letter-more g n s t h k =
    let e : g.letters + suc n ≡ g.letters + 1 + n = omega arith in
    rw ((letter-number s h).1, (letter-number t k).1) (cc (e, broken-twice (eqb g.pads 0) g.broken))

pub letters-count : (g : Groups) (n : ℕ) (s : Symbol) → is_letter s ≡ true → (add_letters_to g n s).letters + (add_letters_to g n s).pads ≡ g.letters + n + g.pads
letters-count g n s h = rw (letter-number s h).1

abbrev pub letter_byte : ℕ → Bool
letter_byte b = is_letter (symbol b)

-- the bytes of a text up to m are letters
module _ {file : List ℕ} {from m : ℕ} (run : Run letter_byte file from m m) where
  pub run-symbolic : Run symbolic file from m m
  unfolding symbolic
  run-symbolic = record {
    low = run.low;
    high = run.high;
    each = λ j h k. rw (letter-number (symbol (get_or file j 0)) (run.each j h k)).1;
    stops = λ h. absurd (omega arith);
  }

  -- the letters are added at once, in front of the rest of the text
  pub letters-run : (g : Groups) (to : ℕ) → from < m → m ≤ to → to ≤ length file
      → bytes_from (add_letters_to g (m - from) (symbol (get_or file (m - 1) 0))) (slice m to file) ≡ bytes_from g (slice from to file)
  letters-run g to h k l =
      let e : suc (m - 1 - from) ≡ m - from = omega arith in
      subst (λ (n : ℕ). bytes_from (add_letters_to g n last) (slice m to file) ≡ bytes_from g (slice from to file)) e
      (go (m - 1 - from) g from (omega arith) (omega arith))
    where
      last : Symbol
      last = symbol (get_or file (m - 1) 0)

      go : (n : ℕ) (g : Groups) (i : ℕ) → from ≤ i → i + suc n ≡ m → bytes_from (add_letters_to g (suc n) last) (slice m to file) ≡ bytes_from g (slice i to file)
      go zero g i h e =
          let p : m - 1 ≡ i = omega arith in
          ap (λ (f : Groups). bytes_from f (slice m to file)) (one-letter g last (run.each (m - 1) (omega arith) (omega arith)))
          ∙ ap (λ (j : ℕ). bytes_from (add_symbol_to g (symbol (get_or file j 0))) (slice m to file)) p
          ∙ ap (λ (j : ℕ). bytes_from (add_symbol_to g (symbol (get_or file i 0))) (slice j to file)) (sym e)
          ∙ sym (bytes_next g file i to (omega arith) l)
      go (suc n) g i h e =
          let s = symbol (get_or file i 0) in
          ap (λ (f : Groups). bytes_from f (slice m to file)) (letter-more g (suc n) s last
          (run.each i h (omega arith)) (run.each (m - 1) (omega arith) (omega arith)))
          ∙ go n (add_symbol_to g s) (i + 1) (omega arith) (omega arith)
          ∙ sym (bytes_next g file i to (omega arith) l)
