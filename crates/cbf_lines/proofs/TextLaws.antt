-- Texts from one place of the file up to another: tests of one byte, runs of bytes that pass a test, and comparison
-- with a word. Assumes nothing.
use mathlib.Core.Path.{◌≡◌, refl, sym, ap, ◌∙◌, subst}
use mathlib.Core.Bool.{Bool, true, false, not, ◌&&◌, ◌||◌, cond, and-false, and-true, true≢false}
use mathlib.Core.List.{List, [], ◌∷◌}
use Prim.Native.Nat.{ℕ, zero, suc, ◌+◌, ◌-◌, ◌≤◌, ◌<◌}
use native.Mathlib.Omega.{arith}
use native.Mathlib.Numerals.{add-one}
use borrow.Author.Tests.{eq-eqb, ne_eqb, leb-true, leb-false, eqb-true, eqb-false}
use lib.Dec.{leb, eqb}
use lib.ListN.{length, take, drop, get_or, drop_of_length-le}
use lib.Seq.{slice, slice-cons, drop-cons, get_or-drop, get_or-take}
use Rattle.cbf_format.specs.Text.{blank, blanks, textual, lower, lowers, same, skip}
use Rattle.cbf_format.specs.Headers.{name_byte}
use Rattle.cbf_format.specs.Base64.{symbol}
use Rattle.cbf_lines.specs.Text.{Run, plain_byte, is_letter}

-- ---- one byte

pub plain-textual : (b : ℕ) → plain_byte b ≡ true → textual b ≡ true
plain-textual b e = go (eqb b 9)
  where
    go : (t : Bool) → (t || plain_byte b) ≡ true
    go true = refl
    go false = e

pub name-no-colon : (x : ℕ) → name_byte x ≡ true → not (eqb x 58) ≡ true
name-no-colon x e = ap not (ne_eqb x 58 (λ q. true≢false (sym e ∙ ap name_byte q)))

-- ---- tests of all bytes

-- a test that all numbers below n pass
abbrev pub every : (ℕ → Bool) → ℕ → Bool
every test zero = true
every test (suc n) = test n && every test n

every-at : (test : ℕ → Bool) (n : ℕ) → every test n ≡ true → (b : ℕ) → b < n → test b ≡ true
every-at test zero e b h = absurd (omega arith)
every-at test (suc n) e b h = go (test n) (eqb b n) refl refl e (λ r l. every-at test n r b l)
  where
    go : (s t : Bool) → test n ≡ s → eqb b n ≡ t → (s && every test n) ≡ true → (every test n ≡ true → b < n → test b ≡ true) → test b ≡ true
    go true true p q r rest = ap test (eqb-true b n q) ∙ p
    go true false p q r rest = let d = eqb-false b n q in rest r (omega arith)
    go false t p q r rest = absurd (true≢false (sym r))

abbrev pub equal : Bool → Bool → Bool
equal s t = cond s t (not t)

-- two tests that agree on all numbers below n
pub tests_agree : (f g : ℕ → Bool) (n : ℕ) → every (λ (x : ℕ). equal (f x) (g x)) n ≡ true → (b : ℕ) → b < n → f b ≡ g b
tests_agree f g n e b h = go (f b) (g b) (every-at (λ (x : ℕ). equal (f x) (g x)) n e b h)
  where
    go : (s t : Bool) → equal s t ≡ true → s ≡ t
    go true t e = sym e
    go false true e = e
    go false false e = refl

-- the letters of BASE64
abbrev letter_ranges : ℕ → Bool
letter_ranges b =
    ((eqb b 43 || (leb 47 b && leb b 57)) || (leb 65 b && leb b 90)) || (leb 97 b && leb b 122)

pub letter-ranges : (b : ℕ) → b < 256 → letter_ranges b ≡ is_letter (symbol b)
unfolding symbol
letter-ranges b h = tests_agree letter_ranges (λ (x : ℕ). is_letter (symbol x)) 256 refl b h

-- ---- runs

module _ {test : ℕ → Bool} {file : List ℕ} where
  -- a run up to m, and on from there
  pub run-then : {from m to r : ℕ} → Run test file from m m → Run test file m to r → Run test file from to r
  run-then {from} {m} {to} {r} a b = record {
    low = omega (arith, a.low, b.low);
    high = b.high;
    each = λ j h k. go j h k (leb (suc j) m) refl;
    stops = b.stops;
  }
    where
      go : (j : ℕ) → from ≤ j → j < r → (t : Bool) → leb (suc j) m ≡ t → test (get_or file j 0) ≡ true
      go j h k true p = a.each j h (leb-true (suc j) m p)
      go j h k false p = b.each j (omega (arith, leb-false (suc j) m p)) k

  pub run-next : {from i : ℕ} → Run test file from i i → test (get_or file i 0) ≡ true → Run test file from (i + 1) (i + 1)
  run-next {from} {i} r e =
      run-then r
      (record {
        low = omega arith;
        high = omega arith;
        each = λ j h k. let q : i ≡ j = omega arith in subst (λ (z : ℕ). test (get_or file z 0) ≡ true) q e;
        stops = λ h. absurd (omega arith);
      })

  -- bytes that pass a test pass a weaker one
  pub run-weaker : {other : ℕ → Bool} {from i : ℕ} → Run test file from i i → ((x : ℕ) → test x ≡ true → other x ≡ true) → Run other file from i i
  run-weaker r w = record { low = r.low; high = r.high; each = λ j h k. w (get_or file j 0) (r.each j h k); stops = λ h. absurd (omega arith) }

  pub run-stop : {from i to : ℕ} → Run test file from i i → i ≤ to → (i < to → test (get_or file i 0) ≡ false) → Run test file from to i
  run-stop r h s = record { low = r.low; high = h; each = r.each; stops = s }

  pub run-tail : {from to r : ℕ} → Run test file from to r → from < r → Run test file (suc from) to r
  run-tail r h = record { low = h; high = r.high; each = λ j k l. r.each j (omega arith) l; stops = r.stops }

  -- what holds where a run ends holds where it starts, where each byte carries it one place back
  pub by-run : (P : ℕ → Type 0) {from to r : ℕ} → Run test file from to r
      → ((j : ℕ) → from ≤ j → j < r → test (get_or file j 0) ≡ true → P (suc j) → P j) → P r → P from
  by-run P {from} {to} {r} run step base = go (r - from) from (let l = run.low in omega arith) (omega arith)
    where
      go : (k j : ℕ) → j + k ≡ r → from ≤ j → P j
      go zero j e h = let q : r ≡ j = omega arith in subst P q base
      go (suc k) j e h = step j h (omega arith) (run.each j h (omega arith)) (go k (suc j) (omega arith) (omega arith))

-- ---- a text, by its bytes

pub get_or-slice : (f t : ℕ) (l : List ℕ) (i : ℕ) → f + i < t → get_or (slice f t l) i 0 ≡ get_or l (f + i) 0
get_or-slice f t l i h = get_or-drop f (take t l) i 0 ∙ get_or-take t l (f + i) 0 h

module _ (file : List ℕ) {from to r : ℕ} (run : Run blank file from to r) (fits : to ≤ length file) where
  -- without the blanks in front, the same
  pub skip-run : skip (slice from to file) ≡ skip (slice r to file)
  skip-run =
      by-run (λ (j : ℕ). skip (slice j to file) ≡ skip (slice r to file)) run
      (λ j h k e ih. let hi = run.high in ap skip (slice-cons j to file 0 (omega arith) fits) ∙ rw e ih) refl

-- a text is blanks, where its end is reached over them
module _ (text : List ℕ) {r : ℕ} (run : Run blank text 0 (length text) r) where
  blanks-run : blanks text ≡ blanks (drop r text)
  blanks-run =
      by-run (λ (j : ℕ). blanks (drop j text) ≡ blanks (drop r text)) run
      (λ j h k e ih. let hi = run.high in ap blanks (drop-cons text j 0 (omega arith)) ∙ rw e ih) refl

  pub blanks-test : eqb r (length text) ≡ blanks text
  blanks-test = go (eqb r (length text)) refl
    where
      go : (t : Bool) → eqb r (length text) ≡ t → t ≡ blanks text
      go true e = let q = eqb-true r (length text) e in sym (blanks-run ∙ ap blanks (drop_of_length-le text {i = r} (omega arith)))
      go false e =
          let d = eqb-false r (length text) e in
          let hi = run.high in
          let h : r < length text = omega arith in
          sym (blanks-run ∙ ap blanks (drop-cons text r 0 h) ∙ rw (run.stops h))

-- ---- comparison, byte by byte

pub length-lowers : (l : List ℕ) → length (lowers l) ≡ length l
length-lowers [] = refl
length-lowers (x ∷ l) = ap suc (length-lowers l)

pub get_or-lowers : (l : List ℕ) (i : ℕ) → get_or (lowers l) i 0 ≡ lower (get_or l i 0)
get_or-lowers [] i = refl
get_or-lowers (x ∷ l) zero = refl
get_or-lowers (x ∷ l) (suc i) = get_or-lowers l i

pub same-lengths : (xs ys : List ℕ) → (length xs ≡ length ys → ⊥) → same xs ys ≡ false
same-lengths [] [] n = absurd (n refl)
same-lengths [] (y ∷ ys) n = refl
same-lengths (x ∷ xs) [] n = refl
same-lengths (x ∷ xs) (y ∷ ys) n = rw (same-lengths xs ys (λ e. n (ap suc e)), and-false)

-- the first i bytes agree, or differ where the flag is set
abbrev pub Compared : Bool → List ℕ → List ℕ → ℕ → Type 0
Compared differs xs ys i = same xs ys ≡ (not differs && same (drop i xs) (drop i ys))

module _ (differs : Bool) (xs ys : List ℕ) (i : ℕ) (a : Compared differs xs ys i) where
  module _ (hx : i < length xs) (hy : i < length ys) where
    here : same xs ys ≡ (not differs && (eqb (get_or xs i 0) (get_or ys i 0) && same (drop (suc i) xs) (drop (suc i) ys)))
    here = a ∙ rw (drop-cons xs i 0 hx, drop-cons ys i 0 hy)

    pub compared-next : get_or xs i 0 ≡ get_or ys i 0 → Compared differs xs ys (i + 1)
    compared-next e = here ∙ rw (eq-eqb (get_or xs i 0) (get_or ys i 0) e, add-one)

    pub compared-not : (get_or xs i 0 ≡ get_or ys i 0 → ⊥) → same xs ys ≡ false
    compared-not e = here ∙ rw (ne_eqb (get_or xs i 0) (get_or ys i 0) e, and-false)

  pub compared-end : length xs ≤ i → length ys ≤ i → same xs ys ≡ not differs
  compared-end hx hy = a ∙ rw (drop_of_length-le xs hx, drop_of_length-le ys hy, and-true)
