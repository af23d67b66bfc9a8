-- Each part of a section is tame, for every line limit, and so is the section. Assumes nothing.
use mathlib.Core.Path.{◌≡◌, refl, ap, ◌∙◌}
use mathlib.Core.Bool.{Bool, true, false}
use mathlib.Core.List.{List, [], ◌∷◌, ◌++◌}
use Prim.Native.Nat.{ℕ, zero, suc, ◌+◌}
use lib.ListN.{length, drop}
use Rattle.cbf_walk.specs.Parsers.{Res, bad, cut, ok, Parser, ret, plus, counted, screen, blame, onward, then, bind}
use Rattle.cbf_walk.proofs.Tame.{Tame}
use Rattle.cbf_walk.proofs.ParserLaws.{bad≢ok, cut≢ok, ok-val, bind-tame, ret-tame, cut-tame, counted-tame}
use Rattle.cbf_walk.proofs.ParserLaws.{screen-tame, blame-tame, onward-tame}
use Rattle.cbf_format.specs.Text.{same}
use Rattle.cbf_format.specs.Lines.{line, line_end, exactly, literal, semicolon_line}
use Rattle.cbf_format.specs.Headers.{header_line, HeaderLines, add_line, more_lines, header_lines}
use Rattle.cbf_format.specs.declared.Encoding.{Encoding}
use Rattle.cbf_format.specs.declared.Encoding.TheVariants.{Binary, Base64}
use Rattle.cbf_format.specs.declared.Description.{Description}
use Rattle.cbf_format.specs.Descriptions.{Verdict, headers_refused, describes, verdict, concluded_by, concluded}
use Rattle.cbf_format.specs.Descriptions.{headers}
use Rattle.cbf_format.specs.Base64.{Letters, add_symbols, refused_text, more_text, letters, decode}
use Rattle.cbf_format.specs.Sections.{closing, marker, Data, last_boundary, after_span, closed, closed_after}
use Rattle.cbf_format.specs.Sections.{binary_data, good_text, decoded, blame_at, text_closed, base64_data, data_for}
use Rattle.cbf_format.specs.Sections.{Section, section_of, section}
use Rattle.cbf_answers.specs.Limits.{file_limit}
use Rattle.cbf_format.proofs.LineTame.{line-tame, line_end-tame, semicolon_line-tame, header_line-tame}
use Rattle.cbf_format.proofs.LineTame.{octets-tame, word-tame}

-- Tameness depends on successes only: q is tame where each success of q comes from a success of a tame p that took as
-- many bytes, and that one always gives it.
pub tame-from : {A B : Type 0} {p : Parser A} {q : Parser B} → Tame p
    → ((s : List ℕ) (c : B) (n : ℕ) → q s ≡ ok c n → (a : A) × (p s ≡ ok a n) × ((r : List ℕ) → p r ≡ ok a n → q r ≡ ok c n))
    → Tame q
tame-from t by = record {
  within = λ s c n e. let u = by s c n e in t.within s u.0 n u.1;
  near = λ b r r' c e h. let u = by (b ++ r) c (length b) h in u.2 (b ++ r') (t.near b r r' u.0 e u.1);
}

-- ---- headers

pub header_lines-tame : (limit most : ℕ) (first : Bool) (at : ℕ) → Tame (header_lines limit most first at)
unfolding header_lines
header_lines-tame limit zero first at = cut-tame
header_lines-tame limit (suc f) first at =
    bind-tame (onward (λ r. counted (header_line limit first r))) (more_lines (λ m. header_lines limit f false m) at)
    (onward-tame (counted-tame (header_line-tame limit first)))
    (λ tn. more (λ m. header_lines-tame limit f false m) tn.0 tn.1)
  where
    more : ((m : ℕ) → Tame (header_lines limit f false m)) → (t : List ℕ) (n : ℕ) → Tame (more_lines (λ m. header_lines limit f false m) at (t, n))
    more ih [] n = ret-tame (record { lines = []; empty = at })
    more ih (x ∷ t) n = bind-tame (header_lines limit f false (at + n)) (λ hs. ret (add_line at (x ∷ t) hs))
        (ih (at + n)) (λ hs. ret-tame (add_line at (x ∷ t) hs))

-- what headers that were concluded say
pub unconclude : (x : Res HeaderLines) (d : Description) (n : ℕ) → concluded x ≡ ok d n → (hs : HeaderLines) × (x ≡ ok hs n) × (verdict hs ≡ describes d)
unconclude (bad k p) d n e = absurd (bad≢ok e)
unconclude cut d n e = absurd (cut≢ok e)
unconclude (ok hs m) d n e = go (verdict hs) refl e
  where
    go : (v : Verdict) → verdict hs ≡ v → concluded_by v m ≡ ok d n → (hs' : HeaderLines) × (ok hs m ≡ ok hs' n) × (verdict hs' ≡ describes d)
    go (headers_refused k p) q h = absurd (bad≢ok h)
    go (describes d') q h = (hs, cc, q ∙ ap describes (ok-val h))

pub headers-tame : (limit most : ℕ) → Tame (headers limit most)
unfolding headers
headers-tame limit most =
    tame-from (header_lines-tame limit most true 0)
    (λ s d n e. let u = unconclude (header_lines limit most true 0 s) d n e in (
      u.0,
      u.1,
      λ r h. ap concluded h
          ∙ ap (λ (v : Verdict). concluded_by v n) u.2,
    ))

-- ---- BINARY

pub last_boundary-tame : Tame last_boundary
unfolding last_boundary
last_boundary-tame = bind-tame line_end (λ e. literal closing) line_end-tame (λ e. word-tame closing)

pub after_span-tame : (limit : ℕ) → Tame (after_span limit)
unfolding after_span
after_span-tame limit = bind-tame line_end (λ e. semicolon_line limit) line_end-tame (λ e. semicolon_line-tame limit)

-- what follows the closing boundary, after n bytes
abbrev pub closed_with : ℕ → (List ℕ × ℕ) → Parser ℕ
closed_with limit wn = bind (after_span limit) (λ e. ret wn.1)

pub closed-tame : (limit : ℕ) → Tame (closed limit)
unfolding closed
closed-tame limit =
    bind-tame (λ s. counted (last_boundary s)) (closed_with limit) (counted-tame last_boundary-tame)
    (λ wn. bind-tame (after_span limit) (λ e. ret wn.1) (after_span-tame limit) (λ e. ret-tame wn.1))

-- the data of n bytes of closing
abbrev pub binary_of : ℕ → List ℕ → ℕ → Data
binary_of size os n = record { octets = os; lead = 4; width = 4 + size + n }

pub binary_data-tame : (limit size : ℕ) → Tame (binary_data limit size)
unfolding binary_data
binary_data-tame limit size =
    bind-tame (λ s. blame 8 (literal marker s)) (λ m. bind (exactly size) (closed_after limit size)) (blame-tame 8 (word-tame marker))
    (λ m. bind-tame (exactly size) (closed_after limit size) (octets-tame size)
    (λ os. bind-tame (λ s. blame 9 (closed limit s)) (λ n. ret (binary_of size os n)) (blame-tame 9 (closed-tame limit)) (λ n. ret-tame (binary_of size os n))))

-- ---- BASE64

pub letters-tame : (limit : ℕ) (boundary : List ℕ) (most at : ℕ) → Tame (letters limit boundary most at)
unfolding letters
letters-tame limit boundary zero at = cut-tame
letters-tame limit boundary (suc f) at =
    bind-tame (onward (λ r. counted (screen (refused_text limit boundary) (line r))))
    (λ tn. more_text (same tn.0 boundary) (λ m. letters limit boundary f m) at tn)
    (onward-tame (counted-tame (screen-tame (refused_text limit boundary) line-tame)))
    (λ tn. more (λ m. letters-tame limit boundary f m) (same tn.0 boundary) tn)
  where
    more : ((m : ℕ) → Tame (letters limit boundary f m)) → (b : Bool) (tn : List ℕ × ℕ) → Tame (more_text b (λ m. letters limit boundary f m) at tn)
    more ih true tn = ret-tame (record { symbols = []; closing = at })
    more ih false tn =
        bind-tame (letters limit boundary f (at + tn.1)) (λ l. ret (record { symbols = add_symbols tn.0 l.symbols; closing = l.closing }))
        (ih (at + tn.1)) (λ l. ret-tame _)

-- the text up to the closing line, and what follows it, as one parser after the other
abbrev pub text : ℕ → ℕ → Parser Letters
text limit size s = screen (good_text size) (letters limit closing file_limit 0 s)

abbrev pub base64_of : Letters → Data
base64_of l = record { octets = decoded (decode l.symbols); lead = 0; width = l.closing + length closing }

abbrev pub after_text : ℕ → Letters → Parser Data
after_text limit l = bind (semicolon_line limit) (λ e. ret (base64_of l))

-- the successes are those of the one after the other
pub unclose : (limit : ℕ) (x : Res Letters) (s : List ℕ) (d : Data) (n : ℕ) → text_closed limit x s ≡ ok d n → then x (after_text limit) s ≡ ok d n
unclose limit (bad k p) s d n e = absurd (bad≢ok e)
unclose limit cut s d n e = absurd (cut≢ok e)
unclose limit (ok l m) s d n e = go (plus m (after_text limit l (drop m s))) e
  where
    go : (y : Res Data) → blame_at 9 l.closing y ≡ ok d n → y ≡ ok d n
    go (bad k p) h = absurd (bad≢ok h)
    go cut h = absurd (bad≢ok h)
    go (ok a k) h = h

pub close : (limit : ℕ) (x : Res Letters) (s : List ℕ) (d : Data) (n : ℕ) → then x (after_text limit) s ≡ ok d n → text_closed limit x s ≡ ok d n
close limit (bad k p) s d n e = absurd (bad≢ok e)
close limit cut s d n e = absurd (cut≢ok e)
close limit (ok l m) s d n e = ap (blame_at 9 l.closing) e

pub base64_data-tame : (limit size : ℕ) → Tame (base64_data limit size)
unfolding base64_data
base64_data-tame limit size =
    tame-from
    (bind-tame (text limit size) (after_text limit) (screen-tame (good_text size) (letters-tame limit closing file_limit 0))
    (λ l. bind-tame (semicolon_line limit) (λ e. ret (base64_of l)) (semicolon_line-tame limit) (λ e. ret-tame (base64_of l))))
    (λ s d n e. (d, unclose limit (text limit size s) s d n e, λ r h. close limit (text limit size r) r d n h))

-- ---- the section

pub data_for-tame : (limit : ℕ) (e : Encoding) (size : ℕ) → Tame (data_for limit e size)
data_for-tame limit Binary size = binary_data-tame limit size
data_for-tame limit Base64 size = base64_data-tame limit size

-- what follows the headers
abbrev pub after_headers : ℕ → List ℕ → ℕ → (Description × ℕ) → Parser Section
after_headers limit block n dm = bind (data_for limit dm.0.encoding dm.0.size) (λ d. ret (section_of block n dm d))

pub section-tame : (limit : ℕ) (block : List ℕ) (n : ℕ) → Tame (section limit block n)
unfolding section
section-tame limit block n =
    bind-tame (λ s. counted (headers limit file_limit s)) (after_headers limit block n) (counted-tame (headers-tame limit file_limit))
    (λ dm. bind-tame (data_for limit dm.0.encoding dm.0.size) (λ d. ret (section_of block n dm d))
    (data_for-tame limit dm.0.encoding dm.0.size) (λ d. ret-tame (section_of block n dm d)))
