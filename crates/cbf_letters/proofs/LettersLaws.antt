-- The bytes of a BASE64 text: which are letters, what number each has, and the numbers of a text from one place of
-- the file on; BASE64 data is good text. Assumes nothing.
use mathlib.Core.Path.{◌≡◌, refl, sym, ap, ◌∙◌, subst}
use mathlib.Core.Bool.{Bool, true, false, not, ◌&&◌, cond, true≢false}
use Rattle.std.specs.Prelude.{None, Some}
use Rattle.std.proofs.lemmas.Option.{none-some}
use mathlib.Core.List.{List, [], ◌∷◌}
use Prim.Native.Nat.{ℕ, zero, suc, ◌+◌, ◌-◌, ◌≤◌, ◌<◌}
use native.Mathlib.Numerals.{add-one}
use native.Mathlib.Omega.{arith}
use lib.Dec.{leb, ltb, eqb}
use borrow.Author.Tests.{leb-true, ltb-true, ltb-false, eqb-true}
use lib.ListN.{length, take, drop, get_or, set, length-drop}
use lib.Seq.{sets, slice, slice_empty, slice-cons, drop-cons, drop-length, length-take-le, get_or-take, get_or-drop}
use Rattle.cbf_walk.specs.Parsers.{ok, hd}
use Rattle.cbf_walk.proofs.ParserLaws.{ok-num}
use Rattle.cbf_format.specs.declared.Symbol.{Symbol}
use Rattle.cbf_format.specs.declared.Symbol.TheVariants.{Letter, Pad, Blank, Other}
use Rattle.cbf_format.specs.Text.{textual}
use Rattle.cbf_format.specs.Lines.{end_length, line_or, line}
use Rattle.cbf_format.specs.Base64.{symbol, is_other, refused_symbol, Letters, letters}
use Rattle.cbf_format.specs.Sections.{closing, Data, base64_data}
use Rattle.cbf_answers.specs.Limits.{file_limit}
use Rattle.cbf_format.proofs.LineTame.{unadd, and-true}
use Rattle.cbf_lines.specs.Text.{is_letter}
use Rattle.cbf_lines.proofs.TextLaws.{tests_agree}
use Rattle.cbf_letters.specs.Letters.{add_six, sixes}
use Rattle.cbf_letters.specs.Octets.{text_byte, LettersOnly}
use Rattle.cbf_letters.proofs.SixesLaws.{letters-by, base64-letters}

-- ---- one byte

-- of the bytes of good text, what is no letter is below 43 or the pad
pub letter-test : (b : ℕ) → b < 256 → text_byte b ≡ true → (leb 43 b && not (eqb b 61)) ≡ is_letter (symbol b)
unfolding symbol
letter-test b h t = rw t at (tests_agree (λ (x : ℕ). text_byte x && (leb 43 x && not (eqb x 61))) (λ (x : ℕ). text_byte x && is_letter (symbol x)) 256 refl b h)

-- the tests that lead from a letter to its number
abbrev pub lowered : ℕ → ℕ → ℕ → ℕ → ℕ
lowered least b d n = cond (ltb least b) (n - d) n

abbrev pub number_of : ℕ → ℕ
number_of b = lowered 96 b 6 (lowered 64 b 69 (lowered 47 b 12 (lowered 46 b 3 (b + 19))))

abbrev has_number : ℕ → Symbol → Bool
has_number n (Letter m) = eqb m n && ltb n 64
has_number n Pad = false
has_number n Blank = false
has_number n Other = false

number-says : (n : ℕ) (s : Symbol) → has_number n s ≡ true → (s ≡ Letter n) × (n < 64)
number-says n (Letter m) e = let u = and-true (eqb m n) (ltb n 64) e in (ap Letter (eqb-true m n u.0), ltb-true n 64 u.1)
number-says n Pad e = absurd (true≢false (sym e))
number-says n Blank e = absurd (true≢false (sym e))
number-says n Other e = absurd (true≢false (sym e))

-- a letter is at most 122, and the tests lead to its number, which has six bits
pub letter-number : (b : ℕ) → b < 256 → is_letter (symbol b) ≡ true → (b ≤ 122) × (symbol b ≡ Letter (number_of b)) × (number_of b < 64)
unfolding symbol
letter-number b h l =
    let u = and-true (leb b 122) (has_number (number_of b) (symbol b))
    (sym (tests_agree (λ (x : ℕ). is_letter (symbol x)) (λ (x : ℕ). leb x 122 && has_number (number_of x) (symbol x)) 256 refl b h) ∙ l) in
    let v = number-says (number_of b) (symbol b) u.1 in
    (leb-true b 122 u.0, v.0, v.1)

pub letter-small : (b n : ℕ) → b < 256 → symbol b ≡ Letter n → n < 64
letter-small b n h e = let u = letter-number b h (ap is_letter e) in let q : number_of b ≡ n = cc u.1 in omega (arith, u.2)

-- ---- what holds at each place from one on up to another

module _ {P : ℕ → Type 0} where
  pub each-then : {from m to : ℕ} → ((i : ℕ) → from ≤ i → i < m → P i) → ((i : ℕ) → m ≤ i → i < to → P i) → (i : ℕ) → from ≤ i → i < to → P i
  each-then {m = m} a b i h k = go (ltb i m) refl
    where
      go : (t : Bool) → ltb i m ≡ t → P i
      go true p = a i h (ltb-true i m p)
      go false p = b i (ltb-false i m p) k

-- ---- the numbers of a text, from its first byte on

add_none : (s : Symbol) (l : List ℕ) → is_letter s ≡ false → add_six s l ≡ l
add_none (Letter n) l e = absurd (true≢false e)
add_none Pad l e = refl
add_none Blank l e = refl
add_none Other l e = refl

pub sixes-empty : (at : ℕ) (file : List ℕ) → sixes (slice at at file) ≡ []
unfolding sixes
sixes-empty at file = ap sixes (slice_empty at file)

module _ (file : List ℕ) (at to : ℕ) (h : at < to) (fits : to ≤ length file) where
  sixes-first : sixes (slice at to file) ≡ add_six (symbol (get_or file at 0)) (sixes (slice (at + 1) to file))
  unfolding sixes
  sixes-first = rw (add-one, slice-cons at to file 0 h fits)

  -- a letter gives its number
  pub sixes-letter : (n : ℕ) → symbol (get_or file at 0) ≡ Letter n → sixes (slice at to file) ≡ n ∷ sixes (slice (at + 1) to file)
  sixes-letter n e = sixes-first ∙ rw e

  -- another byte none
  pub sixes-other : is_letter (symbol (get_or file at 0)) ≡ false → sixes (slice at to file) ≡ sixes (slice (at + 1) to file)
  sixes-other e = sixes-first ∙ add_none (symbol (get_or file at 0)) (sixes (slice (at + 1) to file)) e

-- numbers written up to j, and those of the letters that are left, to be written from there on
abbrev pub finished : List ℕ → List ℕ → ℕ → List ℕ
finished text numbers j = sets numbers j (sixes (drop j text))

pub finished-next : (text numbers : List ℕ) (j r : ℕ) → j < length text → symbol (get_or text j 0) ≡ Letter r
    → finished text (set numbers j r) (j + 1) ≡ finished text numbers j
unfolding sixes
finished-next text numbers j r h e = rw (add-one j, drop-cons text j 0 h, e) refl

pub finished-all : (text numbers : List ℕ) (j : ℕ) → j ≡ length text → finished text numbers j ≡ numbers
unfolding sixes
finished-all text numbers j e = rw (e, drop-length text) refl

-- ---- letters of a block of a text

pub block-letters : (file : List ℕ) (at to : ℕ) → at ≤ to → to ≤ length file
    → LettersOnly (take (to - at) (drop at file)) 0 (length (take (to - at) (drop at file))) → LettersOnly file at to
block-letters file at to h g only i k m =
    let l = length-take-le (to - at) (drop at file) (omega (arith, length-drop at file)) in
    let e : at + (i - at) ≡ i = omega arith in
    let s = get_or-take (to - at) (drop at file) (i - at) 0 (omega arith) in
    rw (s, get_or-drop at file (i - at) 0, e) at (only (i - at) (omega arith) (omega (arith, l)))

-- ---- BASE64 data is good text

-- a line that was not refused has no other byte
unrefused : (limit k x : ℕ) (t : List ℕ) → refused_symbol limit k (x ∷ t) ≡ None → (is_other (symbol x) ≡ false) × (refused_symbol limit (suc k) t ≡ None)
unrefused limit k x t = go (textual x) (ltb k limit) (is_other (symbol x))
  where
    go : (a b o : Bool) → cond a (cond b (cond o (Some (10, k)) (refused_symbol limit (suc k) t)) (Some (2, k))) (Some (3, k)) ≡ None
        → (o ≡ false) × (refused_symbol limit (suc k) t ≡ None)
    go true true true e = absurd (none-some (10, k) (sym e))
    go true true false e = (refl, e)
    go true false o e = absurd (none-some (2, k) (sym e))
    go false b o e = absurd (none-some (3, k) (sym e))

-- the first n bytes are of good text
abbrev GoodTo : ℕ → List ℕ → Type 0
GoodTo n s = (i : ℕ) → i < n → text_byte (get_or s i 0) ≡ true

no_byte : (s : List ℕ) → GoodTo 0 s
no_byte s i h = absurd (omega arith)

one_more_lem : (x n : ℕ) (s : List ℕ) → text_byte x ≡ true → GoodTo n s → GoodTo (suc n) (x ∷ s)
one_more_lem x n s e g zero h = e
one_more_lem x n s e g (suc i) h = g i (omega arith)

line-good : (limit k : ℕ) (s t : List ℕ) (n : ℕ) → line s ≡ ok t n → refused_symbol limit k t ≡ None → GoodTo n s
unfolding symbol
line-good limit k [] t n e r = subst (λ (m : ℕ). GoodTo m []) (ok-num e) (no_byte [])
line-good limit k (x ∷ s) t n e r = go (eqb x 10) (eqb x 13) refl refl e (λ t n e r. line-good limit (suc k) s t n e r)
  where
    after_13 : (r : List ℕ) → GoodTo (end_length (hd r)) (13 ∷ r)
    after_13 [] = one_more_lem 13 0 [] refl (no_byte [])
    after_13 (y ∷ r) = by (eqb y 10) refl
      where
        by : (b : Bool) → eqb y 10 ≡ b → GoodTo (cond b 2 1) (13 ∷ y ∷ r)
        by true p = one_more_lem 13 1 (y ∷ r) refl (one_more_lem y 0 r (rw (eqb-true y 10 p)) (no_byte r))
        by false p = one_more_lem 13 0 (y ∷ r) refl (no_byte (y ∷ r))

    go : (u v : Bool) → eqb x 10 ≡ u → eqb x 13 ≡ v → line_or u v x s (line s) ≡ ok t n
        → ((t : List ℕ) (n : ℕ) → line s ≡ ok t n → refused_symbol limit (suc k) t ≡ None → GoodTo n s) → GoodTo n (x ∷ s)
    go true v p p' h ih = rw (← (ok-num h), eqb-true x 10 p) (one_more_lem 10 0 s refl (no_byte s))
    go false true p p' h ih = rw (← (ok-num h), eqb-true x 13 p') (after_13 s)
    go false false p p' h ih =
        let u = unadd x (line s) t n h in
        let q = unrefused limit k x u.0 (rw u.3 at r) in
        rw u.4 (one_more_lem x u.1 s (rw q.0) (ih u.0 u.1 u.2 q.1))

letters-good : (limit : ℕ) (boundary : List ℕ) (f at : ℕ) (s : List ℕ) (l : Letters) (n : ℕ) → letters limit boundary
    f at s ≡ ok l n → GoodTo (l.closing - at) s
letters-good limit boundary =
    letters-by limit boundary (λ at s l. GoodTo (l.closing - at) s) (λ at s i h. absurd (omega arith))
    (λ at s t n l q r g i h.
    each-then {P = λ i. text_byte (get_or s i 0) ≡ true} {from = 0} {m = n} (λ i _ k. line-good limit 0 s t n q r i k)
    (λ i j k. let m : n + (i - n) ≡ i = omega arith in rw (get_or-drop n s (i - n) 0, m) at (g (i - n) (omega arith))) i (omega arith) h)

-- BASE64 data is good text before its closing boundary
pub base64-good : (limit size : ℕ) (s : List ℕ) (d : Data) (n : ℕ) → base64_data limit size s ≡ ok d n → (i : ℕ)
    → i < d.width - 31 → text_byte (get_or s i 0) ≡ true
base64-good limit size s d n e i h =
    let b = base64-letters limit size s d n e in
    let w : b.0.closing + 31 ≡ d.width = ap (λ (d : Data). d.width) b.4 in
    letters-good limit closing file_limit 0 s b.0 b.1 b.2 i (omega arith)
