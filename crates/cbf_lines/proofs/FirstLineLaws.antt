-- The identifier on the first line: whether it is there shows in the bytes that the file starts with. Assumes nothing.
use mathlib.Core.Path.{◌≡◌, refl, sym, ap, ◌∙◌, subst}
use Rattle.std.specs.Prelude.{Some}
use mathlib.Core.Bool.{Bool, true, false, ◌&&◌, ◌||◌, cond, and-false}
use mathlib.Core.List.{List, [], ◌∷◌}
use Prim.Native.Nat.{ℕ, suc, ◌<◌}
use native.Mathlib.Omega.{arith}
use borrow.Author.Tests.{eqb-true, ne_eqb, leb-true, leb-false, le-leb}
use lib.Dec.{leb, eqb}
use lib.ListN.{length, take, drop, get_or, drop_of_length-le}
use lib.Seq.{slice, take-length, drop-cons}
use Rattle.cbf_walk.specs.Parsers.{ok, screen, screen_or}
use Rattle.cbf_format.specs.Text.{bytes, blank, digit, same, skip, textual}
use Rattle.cbf_format.specs.Lines.{line, refused_byte, text_line}
use Rattle.cbf_format.specs.Files.{versioned, blank_then, identified, refused_first}
use Rattle.cbf_lines.specs.Text.{Run}
use Rattle.cbf_lines.specs.Line.{line_at}
use Rattle.cbf_lines.proofs.TextLaws.{skip-run}
use Rattle.cbf_lines.proofs.LineLaws.{line-good, refused_at}

-- ---- the text of a line and the bytes that it is read from pass the same tests, where each test refuses the bytes
-- that end a line

abbrev Refusing : (ℕ → Bool) → Type 0
Refusing test = (x : ℕ) → textual x ≡ false → test x ≡ false

-- by the first byte: it ends the line, or it is the first byte of its text
line-cases : (x : ℕ) (s t : List ℕ) (n : ℕ) → line (x ∷ s) ≡ ok t n → (C : List ℕ → Type 0) → (textual x ≡ false → C [])
    → ((u : List ℕ) (m : ℕ) → line s ≡ ok u m → C (x ∷ u)) → C t
line-cases x s t n e C stop go_on = let g = line-good s in go (eqb x 10) (eqb x 13) refl refl g.0 g.1 g.2.reads
  where
    go : (p q : Bool) → eqb x 10 ≡ p → eqb x 13 ≡ q → (u : List ℕ) (m : ℕ) → line s ≡ ok u m → C t
    go true q f h u m r = let w : ok [] 1 ≡ ok t n = rw f at e in let z : [] ≡ t = cc in subst C z (stop (ap textual (eqb-true x 10 f)))
    go false true f h u m r = let w = rw (f, h) at e in let z : [] ≡ t = cc in subst C z (stop (ap textual (eqb-true x 13 h)))
    go false false f h u m r = let w : ok (x ∷ u) (suc m) ≡ ok t n = rw (f, h, r) at e in let z : x ∷ u ≡ t = cc in subst C z (go_on u m r)

-- the first byte passes a test, and what follows it passes another
first_then : (ℕ → Bool) → (List ℕ → Bool) → List ℕ → Bool
first_then test rest [] = false
first_then test rest (x ∷ s) = test x && rest s

-- a test of a text that gives the same of a line's text as of all the bytes from its start
Shown : (List ℕ → Bool) → Type 0
Shown p = (s t : List ℕ) (n : ℕ) → line s ≡ ok t n → p t ≡ p s

first-shown : (test : ℕ → Bool) (rest : List ℕ → Bool) → Refusing test → Shown rest → Shown (first_then test rest)
unfolding first_then Shown
first-shown test rest f g [] t n e = let z : t ≡ [] = cc in ap (first_then test rest) z
first-shown test rest f g (x ∷ s) t n e =
    line-cases x s t n e (λ (u : List ℕ). first_then test rest u ≡ (test x && rest s)) (λ h. sym (rw (f x h)))
    (λ u m h. ap (λ (b : Bool). test x && b) (g s u m h))

-- ---- the identifier is such a test

not-textual : (c : ℕ) → textual c ≡ true → Refusing (λ (x : ℕ). eqb x c)
not-textual c e x f = ne_eqb x c (λ q. let z : true ≡ false = sym e ∙ sym (ap textual q) ∙ f in let w : ◌≡◌ {A = ℕ} 0 1 = cc in absurd (omega arith))

version-digit : Refusing (λ (x : ℕ). eqb x 48 || eqb x 49)
version-digit x f = rw (not-textual 48 refl x f, not-textual 49 refl x f)

blank-refusing : Refusing blank
blank-refusing x f = rw (not-textual 9 refl x f, not-textual 32 refl x f)

digit-refusing : Refusing digit
digit-refusing x f = go (leb 48 x) (leb x 57) refl refl
  where
    go : (p q : Bool) → leb 48 x ≡ p → leb x 57 ≡ q → (p && q) ≡ false
    go true true h k =
        let a = leb-true 48 x h in
        let b = leb-true x 57 k in
        let z : true ≡ false = sym (rw (ne_eqb x 9 (λ q. omega arith), le-leb 32 x (omega arith), le-leb x 126 (omega arith))) ∙ f in
        let w : ◌≡◌ {A = ℕ} 0 1 = cc in
        absurd (omega arith)
    go true false h k = refl
    go false q h k = refl

versioned-tests : (s : List ℕ) → versioned s ≡ first_then (λ (x : ℕ). eqb x 48 || eqb x 49) (first_then (λ (x : ℕ). eqb x 46) (first_then digit (λ _. true))) s
unfolding first_then
versioned-tests [] = refl
versioned-tests (x ∷ []) = rw and-false
versioned-tests (x ∷ y ∷ []) = rw (and-false, and-false)
versioned-tests (x ∷ y ∷ z ∷ s) = ap (λ (b : Bool). (eqb x 48 || eqb x 49) && (eqb y 46 && b)) (go (digit z))
  where
    go : (b : Bool) → b ≡ (b && true)
    go true = refl
    go false = refl

versioned-shown : Shown versioned
unfolding Shown
versioned-shown s t n e =
    versioned-tests t
    ∙ first-shown (λ (x : ℕ). eqb x 48 || eqb x 49) (first_then (λ (x : ℕ). eqb x 46) (first_then digit (λ _. true))) version-digit
    (first-shown (λ (x : ℕ). eqb x 46) (first_then digit (λ _. true)) (not-textual 46 refl)
    (first-shown digit (λ _. true) digit-refusing (λ s t n e. refl))) s t n e
    ∙ sym (versioned-tests s)

-- blanks in front change nothing
skip-line : (s t : List ℕ) (n : ℕ) → line s ≡ ok t n → (m : ℕ) × (line (skip s) ≡ ok (skip t) m)
skip-line [] t n e = let z : [] ≡ t = cc in (0, ap (λ (u : List ℕ). ok (skip u) 0) z)
skip-line (x ∷ s) t n e = go (blank x) refl (λ u m h. skip-line s u m h)
  where
    go : (b : Bool) → blank x ≡ b → ((u : List ℕ) (m : ℕ) → line s ≡ ok u m → (k : ℕ)
        × (line (skip s) ≡ ok (skip u) k)) → (m : ℕ) × (line (skip (x ∷ s)) ≡ ok (skip t) m)
    go true f ih =
        line-cases x s t n e (λ (u : List ℕ). (m : ℕ) × (line (skip (x ∷ s)) ≡ ok (skip u) m))
        (λ h. let z : true ≡ false = sym f ∙ blank-refusing x h in let w : ◌≡◌ {A = ℕ} 0 1 = cc in absurd (omega arith))
        (λ u m h. ((ih u m h).0, rw f (ih u m h).1))
    go false f ih =
        let p : skip (x ∷ s) ≡ x ∷ s = rw f in
        let q : skip t ≡ t = line-cases x s t n e (λ (u : List ℕ). skip u ≡ u) (λ h. refl) (λ u m h. rw f) in
        (n, ap line p ∙ e ∙ ap (λ (u : List ℕ). ok u n) (sym q))

blank_then-shown : Shown blank_then
unfolding Shown first_then
blank_then-shown s t n e = is t ∙ first-shown blank (λ (r : List ℕ). versioned (skip r)) blank-refusing
    (λ s t n e. let h = skip-line s t n e in versioned-shown (skip s) (skip t) h.0 h.1) s t n e ∙ sym (is s)
  where
    is : (l : List ℕ) → blank_then l ≡ first_then blank (λ (r : List ℕ). versioned (skip r)) l
    is [] = refl
    is (x ∷ l) = refl

-- a word, then a test
word-then : List ℕ → (List ℕ → Bool) → List ℕ → Bool
word-then w rest s = same (take (length w) s) w && rest (drop (length w) s)

all-textual : List ℕ → Bool
all-textual [] = true
all-textual (c ∷ w) = textual c && all-textual w

word-shown : (w : List ℕ) (rest : List ℕ → Bool) → all-textual w ≡ true → Shown rest → Shown (word-then w rest)
unfolding Shown word-then all-textual first_then
word-shown [] rest a g s t n e = g s t n e
word-shown (c ∷ w) rest a g s t n e = is t ∙ first-shown (λ (x : ℕ). eqb x c) (word-then w rest)
    (not-textual c (left (textual c) (all-textual w) a)) (word-shown w rest (right (textual c) (all-textual w) a) g) s
    t n e ∙ sym (is s)
  where
    left : (p q : Bool) → (p && q) ≡ true → p ≡ true
    left true q h = refl
    left false q h = h

    right : (p q : Bool) → (p && q) ≡ true → q ≡ true
    right true q h = h
    right false q h = let z : ◌≡◌ {A = ℕ} 0 1 = cc in absurd (omega arith)

    assoc : (p q r : Bool) → ((p && q) && r) ≡ (p && (q && r))
    assoc true q r = refl
    assoc false q r = refl

    is : (l : List ℕ) → word-then (c ∷ w) rest l ≡ first_then (λ (x : ℕ). eqb x c) (word-then w rest) l
    is [] = refl
    is (x ∷ l) = assoc (eqb x c) (same (take (length w) l) w) (rest (drop (length w) l))

-- the first line of a file has the identifier where the file starts with it
pub identified-line : (s t : List ℕ) (n : ℕ) → line s ≡ ok t n → identified t ≡ identified s
unfolding identified Shown word-then all-textual
identified-line = word-shown (bytes "###CBF: VERSION") blank_then refl blank_then-shown

-- ---- the identifier, byte by byte

module _ (file : List ℕ) where
  pub too_short : length file < 16 → identified file ≡ false
  unfolding identified
  too_short h = rw (drop_of_length-le file {i = 15} (omega arith), and-false)

  pub other_word : same (take 15 file) (bytes "###CBF: VERSION") ≡ false → identified file ≡ false
  unfolding identified
  other_word e = rw e

  module _ (h : 15 < length file) where
    pub no-blank : blank (get_or file 15 0) ≡ false → identified file ≡ false
    unfolding identified
    no-blank e = rw (drop-cons file 15 0 h, e, and-false)

    module _ (w : same (take 15 file) (bytes "###CBF: VERSION") ≡ true) (e : blank (get_or file 15 0) ≡ true)
        {r : ℕ} (run : Run blank file 16 (length file) r) where
      whole : (j : ℕ) → slice j (length file) file ≡ drop j file
      whole j = ap (drop j) (take-length file)

      at-stop : (t : Bool) → leb (suc r) (length file) ≡ t → skip (drop r file) ≡ drop r file
      at-stop true p = let l = leb-true (suc r) (length file) p in let s = drop-cons file r 0 l in ap skip s ∙ rw (run.stops l) (sym s)
      at-stop false p = let s = drop_of_length-le file {i = r} (omega (arith, leb-false (suc r) (length file) p)) in ap skip s ∙ sym s

      pub by-version : identified file ≡ versioned (drop r file)
      unfolding identified
      by-version =
          rw (w, drop-cons file 15 0 h, e)
          (ap versioned (ap skip (sym (whole 16)) ∙ skip-run file run (omega arith) ∙ ap skip (whole r) ∙ at-stop (leb (suc r) (length file)) refl))

-- ---- the first line is refused, or it is a text line

module _ (limit : ℕ) (file : List ℕ) (b : Bool) (known : (t : List ℕ) (n : ℕ) → line file ≡ ok t n → b ≡ identified t) where
  first-is : (t : List ℕ) (n : ℕ) → line file ≡ ok t n → screen (refused_first limit) (line file) ≡ screen_or (cond b (refused_byte limit 0 t) (Some (1, 0))) t n
  first-is t n e = ap (screen (refused_first limit)) e ∙ ap (λ (c : Bool). screen_or (cond c (refused_byte limit 0 t) (Some (1, 0))) t n) (sym (known t n e))

  pub first-refused : b ≡ false → refused_at 1 0 ≡ line_at 0 (screen (refused_first limit) (line file))
  first-refused f = let g = line-good file in sym (ap (line_at 0) (first-is g.0 g.1 g.2.reads) ∙ rw f)

  pub first-text : b ≡ true → text_line limit file ≡ screen (refused_first limit) (line file)
  unfolding text_line
  first-text f =
      let g = line-good file in
      ap (screen (refused_byte limit 0)) g.2.reads ∙ sym (first-is g.0 g.1 g.2.reads
      ∙ ap (λ (c : Bool). screen_or (cond c (refused_byte limit 0 g.0) (Some (1, 0))) g.0 g.1) f)
