-- The octets that a BASE64 text stands for are the joined six-bit numbers of its bytes; joining goes group by group.
-- Assumes nothing.
use mathlib.Core.List.{List, [], ◌∷◌, ◌++◌}
use Prim.Native.Nat.{ℕ, zero, suc, ◌+◌, ◌*◌, ◌-◌, ◌/◌, ◌%◌, ◌≤◌}
use Rattle.cbf_format.specs.declared.Symbol.{Symbol}
use Rattle.cbf_letters.specs.Letters.{add_six, sixes, group_octets, sixes_octets}
use mathlib.Core.Path.{◌≡◌, refl, sym, ap, ◌∙◌, subst}
use Rattle.std.specs.Prelude.{Option, None, Some}
use Rattle.std.proofs.lemmas.Option.{none-some}
use mathlib.Core.Bool.{Bool, true, false, ◌&&◌, cond}
use native.Mathlib.Omega.{arith}
use lib.Dec.{eqb}
use borrow.Author.Tests.{eqb-true}
use lib.ListN.{length, take, drop}
use lib.Seq.{take-add}
use Rattle.cbf_walk.specs.Parsers.{ok, Parser, hd, ret, counted, screen, onward}
use Rattle.cbf_walk.proofs.ParserLaws.{Unbound, cut≢ok, ok-val, ok-num, unbind, uncount, unscreen, unonward}
use Rattle.cbf_format.specs.declared.Symbol.TheVariants.{Letter, Pad, Blank, Other}
use Rattle.cbf_format.specs.declared.Encoding.TheVariants.{Base64}
use Rattle.cbf_format.specs.Text.{same}
use Rattle.cbf_format.specs.Lines.{end_length, line_or, line, semicolon_line}
use Rattle.cbf_format.specs.Base64.{symbol, add_symbol, add_symbols, Letters, refused_symbol, refused_text, more_text}
use Rattle.cbf_format.specs.Base64.{letters, six, is_pad, is_empty, last_group, from_group, decode}
use Rattle.cbf_format.specs.Sections.{closing, Data, good_text, base64_data}
use Rattle.cbf_answers.specs.Limits.{file_limit}
use Rattle.cbf_format.proofs.LineTame.{unadd, and-true}
use Rattle.cbf_format.proofs.SectionTame.{letters-tame, text, base64_of, after_text, unclose, base64_data-tame}
use Rattle.cbf_format.proofs.SectionLaws.{letters-end, data-says}

-- the same of symbols
unfoldable pub sixes_of : List Symbol → List ℕ
sixes_of [] = []
sixes_of (s ∷ l) = add_six s (sixes_of l)

-- ---- the numbers of one text after another

add-append : (s : Symbol) (l m : List ℕ) → add_six s (l ++ m) ≡ add_six s l ++ m
add-append (Letter n) l m = refl
add-append Pad l m = refl
add-append Blank l m = refl
add-append Other l m = refl

pub sixes-append : (s t : List ℕ) → sixes (s ++ t) ≡ sixes s ++ sixes t
unfolding sixes
sixes-append [] t = refl
sixes-append (x ∷ s) t = ap (add_six (symbol x)) (sixes-append s t) ∙ add-append (symbol x) (sixes s) (sixes t)

-- ---- joining goes group by group

-- k groups of four
data Fours : ℕ → List ℕ → Type 0 where
  no_group : Fours 0 []
  group : {a b c d k : ℕ} {l : List ℕ} → Fours k l → Fours (suc k) (a ∷ b ∷ c ∷ d ∷ l)

fours : (k : ℕ) (l : List ℕ) → length l ≡ 4 * k → Fours k l
fours zero [] e = no_group
fours zero (a ∷ l) e = absurd (omega arith)
fours (suc k) [] e = absurd (omega arith)
fours (suc k) (a ∷ []) e = absurd (omega arith)
fours (suc k) (a ∷ b ∷ []) e = absurd (omega arith)
fours (suc k) (a ∷ b ∷ c ∷ []) e = absurd (omega arith)
fours (suc k) (a ∷ b ∷ c ∷ d ∷ l) e = group (fours k l (omega arith))

pub joined-append : (k : ℕ) (l m : List ℕ) → length l ≡ 4 * k → sixes_octets (l ++ m) ≡ sixes_octets l ++ sixes_octets m
unfolding sixes_octets
joined-append k l m e = go (fours k l e)
  where
    go : {k : ℕ} {l : List ℕ} → Fours k l → sixes_octets (l ++ m) ≡ sixes_octets l ++ sixes_octets m
    go no_group = refl
    go (group {a} {b} {c} {d} g) = ap (λ (os : List ℕ). group_octets a b c d ++ os) (go g)

pub joined_length : (k : ℕ) (l : List ℕ) → length l ≡ 4 * k → length (sixes_octets l) ≡ 3 * k
unfolding sixes_octets
joined_length k l e = go (fours k l e)
  where
    go : {k : ℕ} {l : List ℕ} → Fours k l → length (sixes_octets l) ≡ 3 * k
    go no_group = refl
    go (group g) = omega (arith, go g)

-- ---- what a text decodes to

-- a number that may be there
abbrev add_number : Option ℕ → List ℕ → List ℕ
add_number None l = l
add_number (Some n) l = n ∷ l

add_six_lem : (s : Symbol) (l : List ℕ) → add_six s l ≡ add_number (six s) l
add_six_lem (Letter n) l = refl
add_six_lem Pad l = refl
add_six_lem Blank l = refl
add_six_lem Other l = refl

-- octets that are the first that these numbers give
abbrev Joins : List ℕ → List ℕ → Type 0
Joins l os = os ≡ take (length os) (sixes_octets l)

last_says : (b : Bool) (xs os : List ℕ) → last_group b xs ≡ Some os → (b ≡ true) × (xs ≡ os)
last_says true xs os e = (refl, cc)
last_says false xs os e = absurd (none-some os e)

module _ (p q last : Bool) (m os : List ℕ) (ends : last ≡ true → m ≡ []) where
  group-joins : (a b c d : Option ℕ) (r : Option (List ℕ)) → ((xs : List ℕ) → r ≡ Some xs → Joins m xs) → from_group a b c d p q last r ≡ Some os
      → Joins (add_number a (add_number b (add_number c (add_number d m)))) os
  unfolding sixes_octets
  group-joins (Some a) (Some b) (Some c) (Some d) (Some xs) more e =
      let z : group_octets a b c d ++ xs ≡ os = cc in
      subst (Joins (a ∷ b ∷ c ∷ d ∷ m)) z (ap (λ (ys : List ℕ). group_octets a b c d ++ ys) (more xs refl))
  group-joins (Some a) (Some b) (Some c) (Some d) None more e = absurd (none-some os e)
  group-joins (Some a) (Some b) (Some c) None r more e =
      let u = last_says (q && (last && eqb (c % 4) 0)) ((a * 4 + b / 16) ∷ (b % 16 * 16 + c / 4) ∷ []) os e in
      let n : m ≡ [] = ends (and-true last (eqb (c % 4) 0) (and-true q (last && eqb (c % 4) 0) u.0).1).0 in
      rw n (rw (← u.1))
  group-joins (Some a) (Some b) None None r more e =
      let u = last_says ((p && q) && (last && eqb (b % 16) 0)) ((a * 4 + b / 16) ∷ []) os e in
      let n : m ≡ [] = ends (and-true last (eqb (b % 16) 0) (and-true (p && q) (last && eqb (b % 16) 0) u.0).1).0 in
      rw n (rw (← u.1))
  group-joins (Some a) (Some b) None (Some d) r more e = absurd (none-some os e)
  group-joins (Some a) None c d r more e = absurd (none-some os e)
  group-joins None b c d r more e = absurd (none-some os e)

empty-sixes : (l : List Symbol) → is_empty l ≡ true → sixes_of l ≡ []
unfolding sixes_of
empty-sixes [] e = refl
empty-sixes (s ∷ l) e = let z : ◌≡◌ {A = ℕ} 0 1 = cc in absurd (omega arith)

-- octets that symbols decode to are the first that their numbers give
pub decode-joined : (l : List Symbol) (os : List ℕ) → decode l ≡ Some os → os ≡ take (length os) (sixes_octets (sixes_of l))
unfolding decode sixes_of
decode-joined [] os e = let z : [] ≡ os = cc in rw (← z)
decode-joined (a ∷ []) os e = absurd (none-some os e)
decode-joined (a ∷ b ∷ []) os e = absurd (none-some os e)
decode-joined (a ∷ b ∷ c ∷ []) os e = absurd (none-some os e)
decode-joined (a ∷ b ∷ c ∷ d ∷ l) os e =
    rw (add_six_lem a, add_six_lem b, add_six_lem c, add_six_lem d)
    (group-joins (is_pad c) (is_pad d) (is_empty l) (sixes_of l) os (empty-sixes l) (six a) (six b) (six c) (six d) (decode l) (λ xs q. decode-joined l xs q) e)

-- ---- the letters of the lines

-- a line's end has no letter
line-sixes : (s t : List ℕ) (n : ℕ) → line s ≡ ok t n → sixes (take n s) ≡ sixes t
unfolding sixes symbol
line-sixes [] t n e = let q : [] ≡ t = ok-val e in let z : 0 ≡ n = ok-num e in rw (← q, ← z)
line-sixes (x ∷ s) t n e = go (eqb x 10) (eqb x 13) refl refl e (λ t n e. line-sixes s t n e)
  where
    after_13 : (r : List ℕ) → sixes (take (end_length (hd r)) (13 ∷ r)) ≡ []
    after_13 [] = refl
    after_13 (y ∷ r) = by (eqb y 10) refl
      where
        by : (b : Bool) → eqb y 10 ≡ b → sixes (take (cond b 2 1) (13 ∷ y ∷ r)) ≡ []
        by true p = rw (eqb-true y 10 p)
        by false p = refl

    more : (t' : List ℕ) (k : ℕ) → t ≡ x ∷ t' → n ≡ suc k → sixes (take k s) ≡ sixes t' → sixes (take n (x ∷ s)) ≡ sixes t
    more t' k p q i = rw (p, q) (ap (add_six (symbol x)) i)

    go : (u v : Bool) → eqb x 10 ≡ u → eqb x 13 ≡ v → line_or u v x s (line s) ≡ ok t n → ((t : List ℕ) (n : ℕ) → line s ≡ ok t n → sixes (take n s) ≡ sixes t)
        → sixes (take n (x ∷ s)) ≡ sixes t
    go true v p p' h ih = let q : [] ≡ t = ok-val h in let z : 1 ≡ n = ok-num h in rw (← q, ← z, eqb-true x 10 p)
    go false true p p' h ih = let q : [] ≡ t = ok-val h in let z : end_length (hd s) ≡ n = ok-num h in rw (← q, ← z, eqb-true x 13 p') (after_13 s)
    go false false p p' h ih =
        let u = unadd x (line s) t n h in
        more u.0 u.1 u.3 u.4 (ih u.0 u.1 u.2)

-- the symbols of a text's bytes, before others
added-six : (s : Symbol) (l : List Symbol) → sixes_of (add_symbol s l) ≡ add_six s (sixes_of l)
unfolding sixes_of
added-six (Letter n) l = refl
added-six Pad l = refl
added-six Blank l = refl
added-six Other l = refl

added-sixes : (t : List ℕ) (l : List Symbol) → sixes_of (add_symbols t l) ≡ sixes t ++ sixes_of l
unfolding sixes
added-sixes [] l = refl
added-sixes (x ∷ t) l = added-six (symbol x) (add_symbols t l) ∙ ap (add_six (symbol x)) (added-sixes t l) ∙ add-append (symbol x) (sixes t) (sixes_of l)

-- what holds where only the closing line is left, and is carried back over each line before it, holds of the whole text
module _ (limit : ℕ) (boundary : List ℕ) (P : ℕ → List ℕ → Letters → Type 0) (closes : (at : ℕ) (s : List ℕ) → P at s (record { symbols = []; closing = at }))
    (carries : (at : ℕ) (s t : List ℕ) (n : ℕ) (l : Letters) → line s ≡ ok t n → refused_symbol limit 0 t ≡ None → P (at + n) (drop n s) l
    → P at s (record { symbols = add_symbols t l.symbols; closing = l.closing })) where
  line-by : (b : Bool) (go : ℕ → Parser Letters) (at : ℕ) (tn : List ℕ × ℕ) → ((m : ℕ) (s : List ℕ) (l : Letters) (n : ℕ) → go m s ≡ ok l n → P m s l)
      → (s : List ℕ) → line s ≡ ok tn.0 tn.1 → cond b None (refused_symbol limit 0 tn.0) ≡ None → (l : Letters) (n : ℕ)
      → more_text b go at tn (drop tn.1 s) ≡ ok l n → P at s l
  line-by true go at tn each s q r l n e = subst (P at s) (ok-val e) (closes at s)
  line-by false go at tn each s q r l n e =
      let u = unbind (go (at + tn.1)) (λ (l : Letters). ret (record {
        symbols = add_symbols tn.0 l.symbols;
        closing = l.closing;
      })) (drop tn.1 s) l n e in
      subst (P at s) (ok-val u.then_did) (carries at s tn.0 tn.1 u.val q r (each (at + tn.1) (drop tn.1 s) u.val u.first u.did))

  pub letters-by : (f at : ℕ) (s : List ℕ) (l : Letters) (n : ℕ) → letters limit boundary f at s ≡ ok l n → P at s l
  unfolding letters
  letters-by zero at s l n e = absurd (cut≢ok e)
  letters-by (suc f) at s l n e =
      let u = unbind (onward one) (λ tn. more tn) s l n e in
      let c = uncount (screen (refused_text limit boundary) (line s)) u.val u.first (unonward one s u.val u.first u.did) in
      let r = unscreen (refused_text limit boundary) (line s) u.val.0 u.first c.0 in
      line-by (same u.val.0 boundary) (λ m. letters limit boundary f m) at u.val (λ m s l n e. letters-by f m s l n e) s
      (r.0 ∙ ap (ok u.val.0) (sym c.1)) r.1 l u.second (ap (λ (j : ℕ). more u.val (drop j s)) c.1 ∙ u.then_did)
    where
      one : Parser (List ℕ × ℕ)
      one r = counted (screen (refused_text limit boundary) (line r))

      more : (List ℕ × ℕ) → Parser Letters
      more tn = more_text (same tn.0 boundary) (λ m. letters limit boundary f m) at tn

-- the symbols are those of the bytes before the closing line
abbrev Before : ℕ → List ℕ → Letters → Type 0
Before at s l = (k : ℕ) × (at + k ≡ l.closing) × (sixes_of l.symbols ≡ sixes (take k s))

letters-before : (limit : ℕ) (boundary : List ℕ) (f at : ℕ) (s : List ℕ) (l : Letters) (n : ℕ) → letters limit boundary f at s ≡ ok l n → Before at s l
unfolding sixes sixes_of
letters-before limit boundary =
    letters-by limit boundary Before (λ at s. (0, omega arith, refl))
    (λ at s t n l q r i. (
      n + i.0,
      omega (arith, i.1),
      added-sixes t l.symbols ∙ rw (i.2, ← (line-sixes s t n q))
          (sym (sixes-append (take n s) (take i.0 (drop n s)))) ∙ ap sixes (sym (take-add n i.0 s)),
    ))

-- the letters of a text's lines, up to its closing line, are those of its bytes
pub letters-sixes : (limit : ℕ) (boundary : List ℕ) (f at : ℕ) (s : List ℕ) (l : Letters) (n : ℕ) → letters limit boundary f at s ≡ ok l n
    → (at ≤ l.closing) × (l.closing - at ≤ length s) × (sixes_of l.symbols ≡ sixes (take (l.closing - at) s))
letters-sixes limit boundary f at s l n e =
    let i = letters-end limit boundary f at s l n e in
    let b = letters-before limit boundary f at s l n e in
    let k : b.0 ≡ l.closing - at = omega (arith, b.1) in
    (omega (arith, b.1), omega (arith, i.place, i.sum, (letters-tame limit boundary f at).within s l n e), b.2 ∙ ap (λ (j : ℕ). sixes (take j s)) k)

-- a text that was not refused decodes to octets of the size
good-says : (size : ℕ) (l : Letters) → good_text size l ≡ None → (os : List ℕ) × (decode l.symbols ≡ Some os) × (length os ≡ size)
good-says size l e = go (decode l.symbols) refl
  where
    go : (o : Option (List ℕ)) → decode l.symbols ≡ o → (os : List ℕ) × (decode l.symbols ≡ Some os) × (length os ≡ size)
    go None q = let z : ◌≡◌ {A = ℕ} 0 1 = cc in absurd (omega arith)
    go (Some os) q = by (eqb (length os) size) refl
      where
        by : (b : Bool) → eqb (length os) size ≡ b → (os : List ℕ) × (decode l.symbols ≡ Some os) × (length os ≡ size)
        by true p = (os, q, eqb-true (length os) size p)
        by false p = let z : ◌≡◌ {A = ℕ} 0 1 = cc in absurd (omega arith)

-- BASE64 data is that of its letters
pub base64-letters : (limit size : ℕ) (s : List ℕ) (d : Data) (n : ℕ) → base64_data limit size s ≡ ok d n
    → (l : Letters) × (m : ℕ) × (letters limit closing file_limit 0 s ≡ ok l m) × (good_text size l ≡ None) × (base64_of l ≡ d)
unfolding base64_data
base64-letters limit size s d n e = go (unbind (text limit size) (after_text limit) s d n (unclose limit (text limit size s) s d n e))
  where
    go : Unbound (text limit size) (after_text limit) s d n
        → (l : Letters) × (m : ℕ) × (letters limit closing file_limit 0 s ≡ ok l m) × (good_text size l ≡ None) × (base64_of l ≡ d)
    go u =
        let v = unbind (semicolon_line limit) (λ e. ret (base64_of u.val)) (drop u.first s) d u.second u.then_did in
        let t = unscreen (good_text size) (letters limit closing file_limit 0 s) u.val u.first u.did in
        (u.val, u.first, t.0, t.1, ok-val v.then_did)

-- its octets are from the bytes before the closing boundary, whose 31 bytes end the width
pub base64-octets : (limit size : ℕ) (s : List ℕ) (d : Data) (n : ℕ) → base64_data limit size s ≡ ok d n
    → (d.lead ≡ 0) × (31 ≤ d.width) × (d.width ≤ length s) × (length d.octets ≡ size)
    × (d.octets ≡ take size (sixes_octets (sixes (take (d.width - 31) s))))
base64-octets limit size s d n e =
    let b = base64-letters limit size s d n e in
    let w : b.0.closing + 31 ≡ d.width = ap (λ (d : Data). d.width) b.4 in
    let c = data-says limit Base64 size s d n e in
    subst Says b.4
    (says b.0 (letters-sixes limit closing file_limit 0 s b.0 b.1 b.2).2 (omega (arith, c.closes.sum, (base64_data-tame limit size).within s d n e))
    (good-says size b.0 b.3))
  where
    Says : Data → Type 0
    Says d =
        (d.lead ≡ 0) × (31 ≤ d.width) × (d.width ≤ length s) × (length d.octets ≡ size)
        × (d.octets ≡ take size (sixes_octets (sixes (take (d.width - 31) s))))

    says : (l : Letters) → sixes_of l.symbols ≡ sixes (take (l.closing - 0) s) → l.closing + 31 ≤ length s
        → (os : List ℕ) × (decode l.symbols ≡ Some os) × (length os ≡ size) → Says (base64_of l)
    says l q h o =
        let k : l.closing - 0 ≡ l.closing + 31 - 31 = omega arith in (
          refl,
          omega arith,
          h,
          rw o.1 o.2,
          rw o.1 (decode-joined l.symbols o.0 o.1 ∙ rw (o.2, q, k) refl),
        )
