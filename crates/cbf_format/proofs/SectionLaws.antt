-- What a section that was read says: its parts, and what follows its span. Assumes nothing.
use mathlib.Core.Path.{◌≡◌, refl, sym, ap, ◌∙◌, subst}
use Rattle.std.specs.Prelude.{None, Some}
use mathlib.Core.Bool.{Bool, true, false, cond}
use mathlib.Core.List.{List, [], ◌∷◌}
use Prim.Native.Nat.{ℕ, zero, suc, ◌+◌, ◌≤◌}
use native.Mathlib.Nat.{zero-add}
use native.Mathlib.Omega.{arith}
use lib.Dec.{eqb}
use borrow.Author.Tests.{le-leb}
use lib.ListN.{length, drop}
use lib.Seq.{drop-drop}
use Rattle.cbf_walk.specs.Parsers.{Res, ok, Parser, ret, counted, screen, blame, onward, bind}
use Rattle.cbf_walk.proofs.ParserLaws.{Unbound, bad≢ok, cut≢ok, ok-val, ok-num, unbind, bind-at, uncount, unscreen}
use Rattle.cbf_walk.proofs.ParserLaws.{unblame, unonward}
use Rattle.cbf_format.specs.Text.{same}
use Rattle.cbf_format.specs.Lines.{line_or, line, only_end, line_end, exactly, literal, semicolon, semicolon_line}
use Rattle.cbf_format.specs.declared.Encoding.{Encoding}
use Rattle.cbf_format.specs.declared.Encoding.TheVariants.{Binary, Base64}
use Rattle.cbf_format.specs.declared.Description.{Description}
use Rattle.cbf_format.specs.Descriptions.{headers}
use Rattle.cbf_format.specs.Base64.{Letters, add_symbols, refused_text, more_text, letters}
use Rattle.cbf_format.specs.Sections.{closing, marker, Data, last_boundary, after_span, closed, closed_after}
use Rattle.cbf_format.specs.Sections.{binary_data, good_text, base64_data, data_for, Section, section_of, section}
use Rattle.cbf_answers.specs.Limits.{file_limit}
use Rattle.cbf_format.proofs.LineTame.{unadd, line-pos, unoctets, same-eq}
use Rattle.cbf_format.proofs.SectionTame.{closed_with, binary_of, text, base64_of, after_text, unclose, after_headers}

-- w bytes, which are those up to the span's end, then what follows a span: n bytes in all
pub record Closes (limit : ℕ) (s : List ℕ) (w n : ℕ) : Type 0 where
  pub rest : ℕ
  pub tail : List ℕ
  pub sum : w + rest ≡ n
  pub closes : after_span limit (drop w s) ≡ ok tail rest

-- the same from k bytes before
pub closes-later : (limit k : ℕ) (s : List ℕ) {w n w' n' : ℕ} → Closes limit (drop k s) w n → k + w ≡ w' → k + n ≡ n' → Closes limit s w' n'
closes-later limit k s {w} c e e' = record {
  rest = c.rest;
  tail = c.tail;
  sum = omega (arith, e, e', c.sum);
  closes = ap (after_span limit) (sym (drop-drop w k s ∙ ap (λ (z : ℕ). drop z s) e)) ∙ c.closes;
}

-- ---- BINARY

closed-closes : (limit : ℕ) (s : List ℕ) (c n : ℕ) → closed limit s ≡ ok c n → Closes limit s c n
unfolding closed
closed-closes limit s c n e = go (unbind (λ s. counted (last_boundary s)) (closed_with limit) s c n e)
  where
    U₁ : Type 0
    U₁ = Unbound (λ s. counted (last_boundary s)) (closed_with limit) s c n

    go₂ : (u : U₁) → Unbound (after_span limit) (λ e. ret u.val.1) (drop u.first s) c u.second → Closes limit s c n
    go₂ u v =
        let k : u.val.1 ≡ u.first = (uncount (last_boundary s) u.val u.first u.did).1 in
        let q : u.val.1 ≡ c = ok-val v.then_did in
        let z : 0 ≡ v.second = ok-num v.then_did in
        let at : u.first ≡ c = omega (arith, k, q) in
        record {
          rest = v.first;
          tail = v.val;
          sum = omega (arith, at, z, u.sum, v.sum);
          closes =
              ap (λ (j : ℕ). after_span limit (drop j s)) (sym at) ∙ v.did;
        }

    go : U₁ → Closes limit s c n
    go u = go₂ u (unbind (after_span limit) (λ e. ret u.val.1) (drop u.first s) c u.second u.then_did)

-- what the octets of a section say, in whichever encoding
pub record DataSays (limit : ℕ) (s : List ℕ) (d : Data) (n : ℕ) : Type 0 where
  pub lead : d.lead ≤ d.width
  pub closes : Closes limit s d.width n

pub word_count : (w s t : List ℕ) (n : ℕ) → literal w s ≡ ok t n → n ≡ length w
unfolding literal
word_count w s t n e = (unoctets (length w) s t n (unscreen (λ t. cond (same t w) None (Some (9, 0))) (exactly (length w) s) t n e).0).2

binary-says : (limit size : ℕ) (s : List ℕ) (d : Data) (n : ℕ) → binary_data limit size s ≡ ok d n → DataSays limit s d n
unfolding binary_data
binary-says limit size s d n e = go (unbind (λ s. blame 8 (literal marker s)) (λ m. bind (exactly size) (closed_after limit size)) s d n e)
  where
    U₁ : Type 0
    U₁ = Unbound (λ s. blame 8 (literal marker s)) (λ m. bind (exactly size) (closed_after limit size)) s d n

    U₂ : U₁ → Type 0
    U₂ u = Unbound (exactly size) (closed_after limit size) (drop u.first s) d u.second

    U₃ : (u : U₁) → U₂ u → Type 0
    U₃ u v = Unbound (λ s. blame 9 (closed limit s)) (λ c. ret (binary_of size v.val c)) (drop v.first (drop u.first s)) d v.second

    go₄ : (u : U₁) (v : U₂ u) (w : U₃ u v) → Closes limit (drop v.first (drop u.first s)) w.val w.first → DataSays limit s d n
    go₄ u v w c =
        let a : u.first ≡ 4 = word_count marker s u.val u.first (unblame 8 (literal marker s) u.val u.first u.did) in
        let b : v.first ≡ size = (unoctets size (drop u.first s) v.val v.first v.did).2 in
        let q : binary_of size v.val w.val ≡ d = ok-val w.then_did in
        let z : 0 ≡ w.second = ok-num w.then_did in
        let l : 4 ≡ d.lead = ap (λ (z : Data). z.lead) q in
        let wide : 4 + size + w.val ≡ d.width = ap (λ (z : Data). z.width) q in
        let nearer : Closes limit (drop u.first s) (v.first + w.val) (v.first + w.first) = closes-later limit
        v.first (drop u.first s) c refl refl in
        record {
          lead = omega (arith, l, wide);
          closes = closes-later limit u.first s nearer (omega (arith, a, b, wide)) (omega (arith, z, u.sum, v.sum, w.sum));
        }

    go₃ : (u : U₁) (v : U₂ u) → U₃ u v → DataSays limit s d n
    go₃ u v w =
        go₄ u v w (closed-closes limit (drop v.first (drop u.first s)) w.val w.first
        (unblame 9 (closed limit (drop v.first (drop u.first s))) w.val w.first w.did))

    go₂ : (u : U₁) → U₂ u → DataSays limit s d n
    go₂ u v = go₃ u v (unbind (λ s. blame 9 (closed limit s)) (λ c. ret (binary_of size v.val c))
        (drop v.first (drop u.first s)) d v.second v.then_did)

    go : U₁ → DataSays limit s d n
    go u = go₂ u (unbind (exactly size) (closed_after limit size) (drop u.first s) d u.second u.then_did)

-- ---- BASE64

-- after the text of a line comes its end
pub line-rest : (s t : List ℕ) (n : ℕ) → line s ≡ ok t n → (m : ℕ) × (length t + m ≡ n) × (line (drop (length t) s) ≡ ok [] m)
line-rest [] t n e = let q : [] ≡ t = ok-val e in let z : 0 ≡ n = ok-num e in (0, rw (← q) z, rw (← q) refl)
line-rest (x ∷ xs) t n e = go (eqb x 10) (eqb x 13) e (λ t n e. line-rest xs t n e)
  where
    Rest : List ℕ → List ℕ → ℕ → Type 0
    Rest s t n = (m : ℕ) × (length t + m ≡ n) × (line (drop (length t) s) ≡ ok [] m)

    empty : line_or (eqb x 10) (eqb x 13) x xs (line xs) ≡ ok t n → [] ≡ t → Rest (x ∷ xs) t n
    empty e q = (n, rw (← q) (zero-add n), rw (← q) (e ∙ ap (λ (z : List ℕ). ok z n) (sym q)))

    more : (t' : List ℕ) (k : ℕ) → t ≡ x ∷ t' → n ≡ suc k → Rest xs t' k → Rest (x ∷ xs) t n
    more t' k p q i = (i.0, rw (p, q) (omega (arith, i.1)), rw p i.2)

    go : (u v : Bool) → line_or u v x xs (line xs) ≡ ok t n → ((t : List ℕ) (n : ℕ) → line xs ≡ ok t n → Rest xs t n) → Rest (x ∷ xs) t n
    go true v h ih = empty e (ok-val h)
    go false true h ih = empty e (ok-val h)
    go false false h ih =
        let u = unadd x (line xs) t n h in
        more u.0 u.1 u.3 u.4 (ih u.0 u.1 u.2)

-- where the letters end: the closing line is the last
pub record Ends (boundary s : List ℕ) (at : ℕ) (l : Letters) (n : ℕ) : Type 0 where
  pub before : ℕ
  pub last : ℕ
  pub place : at + before ≡ l.closing
  pub sum : before + last ≡ n
  pub is_line : line (drop before s) ≡ ok boundary last

pub letters-end : (limit : ℕ) (boundary : List ℕ) (f at : ℕ) (s : List ℕ) (l : Letters) (n : ℕ)
    → letters limit boundary f at s ≡ ok l n → Ends boundary s at l n
unfolding letters
letters-end limit boundary zero at s l n e = absurd (cut≢ok e)
letters-end limit boundary (suc f) at s l n e = go (unbind read more s l n e) (λ at s l n e. letters-end limit boundary f at s l n e)
  where
    read : Parser (List ℕ × ℕ)
    read = onward (λ r. counted (screen (refused_text limit boundary) (line r)))

    more : (List ℕ × ℕ) → Parser Letters
    more tn = more_text (same tn.0 boundary) (λ m. letters limit boundary f m) at tn

    with_line : (List ℕ × ℕ) → Letters → Parser Letters
    with_line tn l = ret (record { symbols = add_symbols tn.0 l.symbols; closing = l.closing })

    IH : Type 0
    IH = (at : ℕ) (s : List ℕ) (l : Letters) (n : ℕ) → letters limit boundary f at s ≡ ok l n → Ends boundary s at l n

    U₁ : Type 0
    U₁ = Unbound read more s l n

    U₂ : U₁ → Type 0
    U₂ u = Unbound (letters limit boundary f (at + u.val.1)) (with_line u.val) (drop u.first s) l u.second

    a-line : (u : U₁) → (line s ≡ ok u.val.0 u.first) × (u.val.1 ≡ u.first)
    a-line u =
        let c = uncount (screen (refused_text limit boundary) (line s)) u.val u.first
        (unonward (λ r. counted (screen (refused_text limit boundary) (line r))) s u.val u.first u.did) in
        ((unscreen (refused_text limit boundary) (line s) u.val.0 u.first c.0).0, c.1)

    go₃ : (u : U₁) (v : U₂ u) → Ends boundary (drop u.first s) (at + u.val.1) v.val v.first → Ends boundary s at l n
    go₃ u v i =
        let q : v.val.closing ≡ l.closing = ap (λ (z : Letters). z.closing) (ok-val v.then_did) in
        let z : 0 ≡ v.second = ok-num v.then_did in
        record {
          before = u.first + i.before;
          last = i.last;
          place = omega (arith, q, i.place, (a-line u).1);
          sum = omega (arith, z, i.sum, u.sum, v.sum);
          is_line = ap line (sym (drop-drop i.before u.first s)) ∙ i.is_line;
        }

    go₂ : (u : U₁) (b : Bool) → same u.val.0 boundary ≡ b → more_text b (λ m. letters limit boundary f m) at
        u.val (drop u.first s) ≡ ok l u.second → IH → Ends boundary s at l n
    go₂ u true q h ih =
        let c : at ≡ l.closing = ap (λ (z : Letters). z.closing) (ok-val h) in
        let z : 0 ≡ u.second = ok-num h in
        record {
          before = 0;
          last = u.first;
          place = omega (arith, c);
          sum = omega (arith, z, u.sum);
          is_line = (a-line u).0 ∙ ap (λ (t : List ℕ). ok t u.first) (same-eq u.val.0 boundary q);
        }
    go₂ u false q h ih =
        let v = unbind (letters limit boundary f (at + u.val.1)) (with_line u.val) (drop u.first s) l u.second h in
        go₃ u v (ih (at + u.val.1) (drop u.first s) v.val v.first v.did)

    go : U₁ → IH → Ends boundary s at l n
    go u ih = go₂ u (same u.val.0 boundary) refl u.then_did ih

-- before a `;` line, a line end has a byte
some_end : (limit : ℕ) (s : List ℕ) (m : ℕ) (t : List ℕ) (k : ℕ) → line s ≡ ok [] m → semicolon_line limit (drop m s) ≡ ok t k → 1 ≤ m
unfolding semicolon_line
some_end limit [] m t k e h = let z : m ≡ 0 = sym (ok-num e) in absurd (bad≢ok (subst (λ (j : ℕ). screen (semicolon limit) (line (drop j [])) ≡ ok t k) z h))
some_end limit (x ∷ s) m t k e h = line-pos x s [] m e

pub line_end-ok : (s : List ℕ) (m : ℕ) → 1 ≤ m → line s ≡ ok [] m → line_end s ≡ ok ([], m) m
unfolding line_end
line_end-ok s m h e = ap (λ (x : Res (List ℕ)). screen only_end (counted x)) e ∙ rw (le-leb 1 m h)

pub after_span-ok : (limit : ℕ) (s r : List ℕ) (m : ℕ) (t : List ℕ) (k : ℕ) → line_end s ≡ ok ([], m) m → drop m s ≡ r → semicolon_line limit r ≡ ok t k
    → after_span limit s ≡ ok t (m + k)
unfolding after_span
after_span-ok limit s r m t k e₁ e₂ e₃ = bind-at line_end (λ e. semicolon_line limit) s r m e₁ e₂ e₃

base64-says : (limit size : ℕ) (s : List ℕ) (d : Data) (n : ℕ) → base64_data limit size s ≡ ok d n → DataSays limit s d n
unfolding base64_data
base64-says limit size s d n e = go (unbind (text limit size) (after_text limit) s d n (unclose limit (text limit size s) s d n e))
  where
    U₁ : Type 0
    U₁ = Unbound (text limit size) (after_text limit) s d n

    U₂ : U₁ → Type 0
    U₂ u = Unbound (semicolon_line limit) (λ e. ret (base64_of u.val)) (drop u.first s) d u.second

    go₃ : (u : U₁) (v : U₂ u) (i : Ends closing s 0 u.val u.first)
        → (m : ℕ) × (length closing + m ≡ i.last) × (line (drop (length closing) (drop i.before s)) ≡ ok [] m) → DataSays limit s d n
    go₃ u v i c =
        let q : base64_of u.val ≡ d = ok-val v.then_did in
        let z : 0 ≡ v.second = ok-num v.then_did in
        let l : 0 ≡ d.lead = ap (λ (z : Data). z.lead) q in
        let w : u.val.closing + length closing ≡ d.width = ap (λ (z : Data). z.width) q in
        let at : i.before + length closing ≡ d.width = omega (arith, w, i.place) in
        let end : d.width + c.0 ≡ u.first = omega (arith, at, c.1, i.sum) in
        let here : line (drop d.width s) ≡ ok [] c.0 = ap line (sym (drop-drop (length closing) i.before s ∙ ap (λ (z : ℕ). drop z s) at)) ∙ c.2 in
        let on : drop c.0 (drop d.width s) ≡ drop u.first s = drop-drop c.0 d.width s ∙ ap (λ (z : ℕ). drop z s) end in
        let Some : 1 ≤ c.0 = some_end limit (drop d.width s) c.0 v.val v.first here (ap (semicolon_line limit) on ∙ v.did) in
        record {
          lead = omega (arith, l);
          closes = record {
            rest = c.0 + v.first;
            tail = v.val;
            sum = omega (arith, z, end, u.sum, v.sum);
            closes = after_span-ok limit (drop d.width s) (drop u.first s) c.0 v.val v.first
                (line_end-ok (drop d.width s) c.0 Some here) on v.did;
          };
        }

    go₂ : (u : U₁) → U₂ u → Ends closing s 0 u.val u.first → DataSays limit s d n
    go₂ u v i = go₃ u v i (line-rest (drop i.before s) closing i.last i.is_line)

    go : U₁ → DataSays limit s d n
    go u =
        go₂ u (unbind (semicolon_line limit) (λ e. ret (base64_of u.val)) (drop u.first s) d u.second u.then_did)
        (letters-end limit closing file_limit 0 s u.val u.first (unscreen (good_text size) (letters limit closing
        file_limit 0 s) u.val u.first u.did).0)

pub data-says : (limit : ℕ) (e : Encoding) (size : ℕ) (s : List ℕ) (d : Data) (n : ℕ) → data_for limit e size s ≡ ok d n → DataSays limit s d n
data-says limit Binary size s d n e = binary-says limit size s d n e
data-says limit Base64 size s d n e = base64-says limit size s d n e

-- ---- the section

-- what a section says whose boundary line took n bytes, in a data block: `head` bytes of headers, then its data
pub record Sectioned (limit : ℕ) (block : List ℕ) (n : ℕ) (s : List ℕ) (i : Section) (m : ℕ) : Type 0 where
  pub found : Data
  pub head : ℕ
  pub rest : ℕ
  pub sum : head + rest ≡ m
  pub heads : headers limit file_limit s ≡ ok i.description head
  pub did : data_for limit i.description.encoding i.description.size (drop head s) ≡ ok found rest
  pub is : section_of block n (i.description, head) found ≡ i

pub sectioned : (limit : ℕ) (block : List ℕ) (n : ℕ) (s : List ℕ) (i : Section) (m : ℕ) → section limit block n s ≡ ok i m → Sectioned limit block n s i m
unfolding section
sectioned limit block n s i m e = go (unbind (λ s. counted (headers limit file_limit s)) (after_headers limit block n) s i m e)
  where
    U₁ : Type 0
    U₁ = Unbound (λ s. counted (headers limit file_limit s)) (after_headers limit block n) s i m

    U₂ : U₁ → Type 0
    U₂ u = Unbound (data_for limit u.val.0.encoding u.val.0.size) (λ d. ret (section_of block n u.val d)) (drop u.first s) i u.second

    go₃ : (u : U₁) (v : U₂ u) → (headers limit file_limit s ≡ ok u.val.0 u.first) × (u.val.1 ≡ u.first) → Sectioned limit block n s i m
    go₃ u v c =
        let q : section_of block n u.val v.val ≡ i = ok-val v.then_did in
        let z : 0 ≡ v.second = ok-num v.then_did in
        let d : u.val.0 ≡ i.description = ap (λ (z : Section). z.description) q in
        record {
          found = v.val;
          head = u.first;
          rest = v.first;
          sum = omega (arith, z, u.sum, v.sum);
          heads = c.0 ∙ ap (λ (z : Description). ok z u.first) d;
          did = ap (λ (z : Description). data_for limit z.encoding z.size (drop u.first s)) (sym d) ∙ v.did;
          is = (λ j. section_of block n (sym d j, sym c.1 j) v.val) ∙ q;
        }

    go : U₁ → Sectioned limit block n s i m
    go u =
        go₃ u (unbind (data_for limit u.val.0.encoding u.val.0.size)
        (λ d. ret (section_of block n u.val d)) (drop u.first s) i u.second u.then_did)
        (uncount (headers limit file_limit s) u.val u.first u.did)
