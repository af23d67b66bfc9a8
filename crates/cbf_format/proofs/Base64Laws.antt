-- BASE64 text: octets that were written are read back, and only what octets are written as is read as them. Assumes
-- nothing.
use mathlib.Core.Path.{◌≡◌, refl, sym, ap, ◌∙◌}
use Rattle.std.specs.Prelude.{Option, None, Some}
use Rattle.std.proofs.lemmas.Option.{none-some}
use mathlib.Core.Bool.{Bool, true, false, ◌&&◌, cond, true≢false}
use mathlib.Core.List.{List, [], ◌∷◌}
use Prim.Native.Nat.{ℕ, zero, suc, ◌+◌, ◌*◌, ◌-◌, ◌/◌, ◌%◌, ◌≤◌, ◌<◌}
use native.Mathlib.Nat.{add-zero, zero-add, add-suc, suc-add, le_of_suc-le-suc, not-suc-le-zero}
use native.Mathlib.Omega.{arith}
use lib.Dec.{leb, eqb}
use borrow.Author.Tests.{eq-eqb, eqb-true, leb-true}
use lib.ListN.{length, get_or}
use Rattle.cbf_pixels.specs.Octets.{Octets, no_octet, octet}
use Rattle.cbf_format.specs.declared.Symbol.{Symbol}
use Rattle.cbf_format.specs.declared.Symbol.TheVariants.{Letter, Pad, Blank, Other}
use Rattle.cbf_format.specs.Text.{blank}
use Rattle.cbf_format.specs.Base64.{symbol, add_symbol, add_symbols, add_octets, last_group, is_empty, decode}
use Rattle.cbf_format.specs.Base64Text.{alphabet, letter_of, encode, written_symbols}
use Rattle.cbf_format.proofs.LineTame.{and-true}

-- ---- a letter is read as its number: one test, computed over the alphabet

abbrev is : ℕ → Symbol → Bool
is n (Letter m) = eqb m n
is n Pad = false
is n Blank = false
is n Other = false

abbrev every : ℕ → List ℕ → Bool
every k [] = true
every k (x ∷ t) = is k (symbol x) && every (suc k) t

every-at : (t : List ℕ) (k n : ℕ) → every k t ≡ true → n < length t → is (k + n) (symbol (get_or t n 0)) ≡ true
every-at [] k n e h = absurd (not-suc-le-zero h)
every-at (x ∷ t) k zero e h = rw add-zero (and-true (is k (symbol x)) (every (suc k) t) e).0
every-at (x ∷ t) k (suc n) e h =
    ap (λ (j : ℕ). is j (symbol (get_or t n 0))) (add-suc k n ∙ sym (suc-add k n))
    ∙ every-at t (suc k) n (and-true (is k (symbol x)) (every (suc k) t) e).1 (le_of_suc-le-suc h)

is-letter : (n : ℕ) (s : Symbol) → is n s ≡ true → s ≡ Letter n
is-letter n (Letter m) e = ap Letter (eqb-true m n e)
is-letter n Pad e = absurd (true≢false (sym e))
is-letter n Blank e = absurd (true≢false (sym e))
is-letter n Other e = absurd (true≢false (sym e))

pub letter-symbol : (n : ℕ) → n < 64 → symbol (letter_of n) ≡ Letter n
unfolding letter_of symbol
letter-symbol n h =
    is-letter n (symbol (get_or alphabet n 0)) (ap (λ (j : ℕ). is j (symbol (get_or alphabet n 0))) (sym (zero-add n)) ∙ every-at alphabet 0 n refl h)

-- ---- what octets are written as is read as them

pub decode-written : {os : List ℕ} → Octets os → decode (written_symbols os) ≡ Some os
unfolding encode decode symbol
decode-written no_octet = refl
decode-written (octet {o = a} h no_octet) =
    rw (letter-symbol (a / 4) (omega arith), letter-symbol (a % 4 * 16) (omega arith))
    (let z : a % 4 * 16 % 16 ≡ 0 = omega arith in
    let e : a / 4 * 4 + a % 4 * 16 / 16 ≡ a = omega arith in
    rw (eq-eqb (a % 4 * 16 % 16) 0 z, e))
decode-written (octet {o = a} h (octet {o = b} k no_octet)) =
    rw (letter-symbol (a / 4) (omega arith), letter-symbol (a % 4 * 16 + b / 16) (omega arith), letter-symbol (b % 16 * 4) (omega arith))
    (let z : b % 16 * 4 % 4 ≡ 0 = omega arith in
    let e : a / 4 * 4 + (a % 4 * 16 + b / 16) / 16 ≡ a = omega arith in
    let e' : (a % 4 * 16 + b / 16) % 16 * 16 + b % 16 * 4 / 4 ≡ b = omega arith in
    rw (eq-eqb (b % 16 * 4 % 4) 0 z, e, e'))
decode-written (octet {o = a} h (octet {o = b} k (octet {o = c} l r))) =
    rw (
      letter-symbol (a / 4) (omega arith),
      letter-symbol (a % 4 * 16 + b / 16) (omega arith),
      letter-symbol (b % 16 * 4 + c / 64) (omega arith),
      letter-symbol (c % 64) (omega arith),
    )
    (let e : a / 4 * 4 + (a % 4 * 16 + b / 16) / 16 ≡ a = omega arith in
    let e' : (a % 4 * 16 + b / 16) % 16 * 16 + (b % 16 * 4 + c / 64) / 4 ≡ b = omega arith in
    let e'' : (b % 16 * 4 + c / 64) % 4 * 64 + c % 64 ≡ c = omega arith in
    rw (decode-written r, e, e', e''))

-- ---- letters with a number below 64, and pads

pub data Plain : Symbol → Type 0 where
  letter : {n : ℕ} → n < 64 → Plain (Letter n)
  pad : Plain Pad

pub data Plains : List Symbol → Type 0 where
  no_symbol : Plains []
  more : {s : Symbol} {l : List Symbol} → Plain s → Plains l → Plains (s ∷ l)

-- ---- the letters of a text are below 64

letter-or : (b : Bool) (m : ℕ) (s : Symbol) (n : ℕ) → (b ≡ true → m < 64) → (s ≡ Letter n → n < 64) → cond b (Letter m) s ≡ Letter n → n < 64
letter-or true m s n h k e = let q : m ≡ n = cc in omega (arith, h refl)
letter-or false m s n h k e = k e

no-letter : (a b : Bool) (n : ℕ) → cond a Pad (cond b Blank Other) ≡ Letter n → n < 64
no-letter true b n e = let z : ◌≡◌ {A = ℕ} 0 1 = cc in absurd (omega arith)
no-letter false true n e = let z : ◌≡◌ {A = ℕ} 0 1 = cc in absurd (omega arith)
no-letter false false n e = let z : ◌≡◌ {A = ℕ} 0 1 = cc in absurd (omega arith)

up_to : (a x y : ℕ) → (leb a x && leb x y) ≡ true → x ≤ y
up_to a x y e = leb-true x y (and-true (leb a x) (leb x y) e).1

pub symbol-letter : (x n : ℕ) → symbol x ≡ Letter n → n < 64
unfolding symbol
symbol-letter x n =
    letter-or (leb 65 x && leb x 90) (x - 65) _ n (λ e. omega (arith, up_to 65 x 90 e))
    (letter-or (leb 97 x && leb x 122) (x - 71) _ n (λ e. omega (arith, up_to 97 x 122 e))
    (letter-or (leb 48 x && leb x 57) (x + 4) _ n (λ e. omega (arith, up_to 48 x 57 e))
    (letter-or (eqb x 43) 62 _ n (λ e. omega arith) (letter-or (eqb x 47) 63 _ n (λ e. omega arith) (no-letter (eqb x 61) (blank x) n)))))

add-plain : (s : Symbol) {l : List Symbol} → ((n : ℕ) → s ≡ Letter n → n < 64) → Plains l → Plains (add_symbol s l)
add-plain (Letter n) h p = more (letter (h n refl)) p
add-plain Pad h p = more pad p
add-plain Blank h p = p
add-plain Other h p = p

-- such are the letters and pads of every text
pub plain-bytes : (t : List ℕ) {l : List Symbol} → Plains l → Plains (add_symbols t l)
plain-bytes [] p = p
plain-bytes (x ∷ t) p = add-plain (symbol x) (λ n e. symbol-letter x n e) (plain-bytes t p)

-- ---- the octets that a text decodes to are below 256

abbrev pub OctetsIn : Option (List ℕ) → Type 0
OctetsIn None = Unit {0}
OctetsIn (Some os) = Octets os

octets-last : (b : Bool) {os : List ℕ} → Octets os → OctetsIn (last_group b os)
octets-last true h = h
octets-last false h = tt

octets-three : {a b c : ℕ} (o : Option (List ℕ)) → a < 256 → b < 256 → c < 256 → OctetsIn o → OctetsIn (add_octets (a ∷ b ∷ c ∷ []) o)
octets-three None ha hb hc h = tt
octets-three (Some os) ha hb hc h = octet ha (octet hb (octet hc h))

octets-four : {a b c d : Symbol} (l : List Symbol) → Plain a → Plain b → Plain c → Plain d → OctetsIn (decode l) → OctetsIn (decode (a ∷ b ∷ c ∷ d ∷ l))
unfolding decode
octets-four l pad b c d h = tt
octets-four l (letter ha) pad c d h = tt
octets-four l (letter ha) (letter hb) pad (letter hd) h = tt
octets-four l (letter ha) (letter {n = b} hb) pad pad h = octets-last (is_empty l && eqb (b % 16) 0) (octet (omega arith) no_octet)
octets-four l (letter ha) (letter hb) (letter {n = c} hc) pad h =
    octets-last (is_empty l && eqb (c % 4) 0) (octet (omega arith) (octet (omega arith) no_octet))
octets-four l (letter ha) (letter hb) (letter hc) (letter hd) h = octets-three (decode l) (omega arith) (omega arith) (omega arith) h

pub decode-octets : {l : List Symbol} → Plains l → OctetsIn (decode l)
unfolding decode
decode-octets no_symbol = no_octet
decode-octets (more a no_symbol) = tt
decode-octets (more a (more b no_symbol)) = tt
decode-octets (more a (more b (more c no_symbol))) = tt
decode-octets (more a (more b (more c (more {l = l} d p)))) = octets-four l a b c d (decode-octets p)

-- ---- only what octets are written as is read as them

only-full : (a b c d : ℕ) (l : List Symbol) (os : List ℕ) → a < 64 → b < 64 → c < 64 → d < 64 → written_symbols os ≡ l
    → written_symbols ((a * 4 + b / 16) ∷ (b % 16 * 16 + c / 4) ∷ (c % 4 * 64 + d) ∷ os) ≡ Letter a ∷ Letter b ∷ Letter c ∷ Letter d ∷ l
unfolding encode
only-full a b c d l os ha hb hc hd e =
    let p : (a * 4 + b / 16) / 4 ≡ a = omega arith in
    let q : (a * 4 + b / 16) % 4 * 16 + (b % 16 * 16 + c / 4) / 16 ≡ b = omega arith in
    let r : (b % 16 * 16 + c / 4) % 16 * 4 + (c % 4 * 64 + d) / 64 ≡ c = omega arith in
    let t : (c % 4 * 64 + d) % 64 ≡ d = omega arith in
    rw (p, q, r, t, letter-symbol a ha, letter-symbol b hb, letter-symbol c hc, letter-symbol d hd, e)

only_two : (a b c : ℕ) → a < 64 → b < 64 → c < 64 → c % 4 ≡ 0
    → written_symbols ((a * 4 + b / 16) ∷ (b % 16 * 16 + c / 4) ∷ []) ≡ Letter a ∷ Letter b ∷ Letter c ∷ Pad ∷ []
unfolding encode symbol
only_two a b c ha hb hc z =
    let p : (a * 4 + b / 16) / 4 ≡ a = omega arith in
    let q : (a * 4 + b / 16) % 4 * 16 + (b % 16 * 16 + c / 4) / 16 ≡ b = omega arith in
    let r : (b % 16 * 16 + c / 4) % 16 * 4 ≡ c = omega arith in
    rw (p, q, r) (rw (letter-symbol a ha, letter-symbol b hb, letter-symbol c hc))

only_one : (a b : ℕ) → a < 64 → b < 64 → b % 16 ≡ 0 → written_symbols ((a * 4 + b / 16) ∷ []) ≡ Letter a ∷ Letter b ∷ Pad ∷ Pad ∷ []
unfolding encode symbol
only_one a b ha hb z =
    let p : (a * 4 + b / 16) / 4 ≡ a = omega arith in
    let q : (a * 4 + b / 16) % 4 * 16 ≡ b = omega arith in
    rw (p, q) (rw (letter-symbol a ha, letter-symbol b hb))

pub decode-only : {l : List Symbol} (os : List ℕ) → Plains l → decode l ≡ Some os → written_symbols os ≡ l
unfolding decode encode
decode-only os no_symbol e = let z : [] ≡ os = cc in ap written_symbols (sym z)
decode-only os (more a no_symbol) e = absurd (none-some os e)
decode-only os (more a (more b no_symbol)) e = absurd (none-some os e)
decode-only os (more a (more b (more c no_symbol))) e = absurd (none-some os e)
decode-only os (more (letter {n = a} ha) (more (letter {n = b} hb) (more (letter {n = c} hc) (more {l = l} (letter {n = d} hd) p)))) e =
    full (decode l) refl e (λ os e. decode-only os p e)
  where
    full : (r : Option (List ℕ)) → decode l ≡ r → add_octets ((a * 4 + b / 16) ∷ (b % 16 * 16 + c / 4) ∷ (c % 4 * 64 + d) ∷ []) r ≡ Some os
        → ((os : List ℕ) → decode l ≡ Some os → written_symbols os ≡ l) → written_symbols os ≡ Letter a ∷ Letter b ∷ Letter c ∷ Letter d ∷ l
    full None q e ih = absurd (none-some os e)
    full (Some r) q e ih =
        let z : (a * 4 + b / 16) ∷ (b % 16 * 16 + c / 4) ∷ (c % 4 * 64 + d) ∷ r ≡ os = cc in
        ap written_symbols (sym z) ∙ only-full a b c d l r ha hb hc hd (ih r q)
decode-only os (more (letter {n = a} ha) (more (letter {n = b} hb) (more (letter {n = c} hc) (more pad no_symbol)))) e = two (eqb (c % 4) 0) refl e
  where
    two : (t : Bool) → eqb (c % 4) 0 ≡ t → last_group t ((a * 4 + b / 16) ∷ (b % 16 * 16 + c / 4) ∷ []) ≡ Some os
        → written_symbols os ≡ Letter a ∷ Letter b ∷ Letter c ∷ Pad ∷ []
    two true q e =
        let z : (a * 4 + b / 16) ∷ (b % 16 * 16 + c / 4) ∷ [] ≡ os = cc in
        ap written_symbols (sym z) ∙ only_two a b c ha hb hc (eqb-true (c % 4) 0 q)
    two false q e = absurd (none-some os e)
decode-only os (more (letter ha) (more (letter hb) (more (letter hc) (more pad (more s p))))) e = absurd (none-some os e)
decode-only os (more (letter {n = a} ha) (more (letter {n = b} hb) (more pad (more pad no_symbol)))) e = one (eqb (b % 16) 0) refl e
  where
    one : (t : Bool) → eqb (b % 16) 0 ≡ t → last_group t ((a * 4 + b / 16) ∷ []) ≡ Some os → written_symbols os ≡ Letter a ∷ Letter b ∷ Pad ∷ Pad ∷ []
    one true q e = let z : (a * 4 + b / 16) ∷ [] ≡ os = cc in ap written_symbols (sym z) ∙ only_one a b ha hb (eqb-true (b % 16) 0 q)
    one false q e = absurd (none-some os e)
decode-only os (more (letter ha) (more (letter hb) (more pad (more pad (more s p))))) e = absurd (none-some os e)
decode-only os (more (letter ha) (more (letter hb) (more pad (more (letter hd) p)))) e = absurd (none-some os e)
decode-only os (more (letter ha) (more pad (more c (more d p)))) e = absurd (none-some os e)
decode-only os (more pad (more b (more c (more d p)))) e = absurd (none-some os e)
