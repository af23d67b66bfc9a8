-- Each refusal of reading has a number from 1 to 11, and a place inside the file; the boundary line of a section with
-- a long name is inside it too. Assumes nothing.
use mathlib.Core.Path.{◌≡◌, refl, ap, subst}
use Rattle.std.specs.Prelude.{Option, None, Some}
use mathlib.Core.Bool.{Bool, true, false, ◌&&◌, cond}
use mathlib.Core.List.{List, [], ◌∷◌, ◌++◌}
use Prim.Native.Nat.{ℕ, zero, suc, ◌+◌, ◌≤◌}
use native.Mathlib.Omega.{arith}
use lib.Dec.{leb, ltb, eqb}
use borrow.Author.Tests.{leb-true}
use lib.ListN.{length, length-append, take, drop}
use Rattle.cbf_walk.specs.Parsers.{Res, bad, cut, ok, Parser, ret, plus, counted, screen, blame, onward, bind}
use Rattle.cbf_walk.specs.Reading.{Item, Reading, refused, good, flat}
use Rattle.cbf_walk.proofs.ParserLaws.{cut≢ok, ok-val, uncount, unscreen, unonward, counted-tame, screen-tame}
use Rattle.cbf_walk.proofs.ParserLaws.{blame-tame, onward-tame}
use Rattle.cbf_walk.proofs.PlaceLaws.{Gives, bind-gives, Within, TestWithin, passes, refuses, ReadingWithin}
use Rattle.cbf_walk.proofs.PlaceLaws.{RefusesWithin, cond-within, ret-within, cut-within, counted-within}
use Rattle.cbf_walk.proofs.PlaceLaws.{screen-within, blame-within, onward-within, bind-within, read-within}
use Rattle.cbf_format.specs.Text.{textual, same, skip}
use Rattle.cbf_format.specs.Lines.{line_or, line, refused_byte, text_line, exactly, literal}
use Rattle.cbf_format.specs.Headers.{or_malformed, malformed, header_line, HeaderLines, add_line, more_lines}
use Rattle.cbf_format.specs.Headers.{header_lines, Header, Grouped, continues, split_colon, headed, group}
use Rattle.cbf_format.specs.declared.KnownHeader.{KnownHeader}
use Rattle.cbf_format.specs.declared.KnownHeader.TheVariants.{TransferEncoding, Size, Elements}
use Rattle.cbf_format.specs.Values.{known_headers, header_named, value_of}
use Rattle.cbf_format.specs.declared.Encoding.{Encoding}
use Rattle.cbf_format.specs.declared.Encoding.TheVariants.{Binary, Base64}
use Rattle.cbf_format.specs.declared.Description.{Description}
use Rattle.cbf_format.specs.Descriptions.{Judged, refused_at, found, look, put, judge_header}
use Rattle.cbf_format.specs.Descriptions.{judge_on as judged_on, judge, description, agrees, Verdict}
use Rattle.cbf_format.specs.Descriptions.{headers_refused as refuses_at, describes, described, verdict_of}
use Rattle.cbf_format.specs.Descriptions.{verdict, concluded_by, concluded, headers}
use Rattle.cbf_format.specs.Base64.{symbol, is_other, refused_symbol, Letters, add_symbols, refused_text, more_text}
use Rattle.cbf_format.specs.Base64.{letters, decode, sized}
use Rattle.cbf_format.specs.Sections.{closing, marker, closed, closed_after, binary_data, good_text, blame_at}
use Rattle.cbf_format.specs.Sections.{text_closed, base64_data, data_for, Section, section_of, section}
use Rattle.cbf_answers.specs.Limits.{file_limit}
use Rattle.cbf_format.specs.Files.{identified, refused_first, Field, first_line, outside, opened, inside, State}
use Rattle.cbf_format.specs.Files.{start, due, after_line, after_section, is_boundary, one_too_many, step_line}
use Rattle.cbf_format.specs.Files.{section_or, after_step_line, step, Tree, read_some, read}
use Rattle.cbf_format.specs.Listing.{Placed, add_placed, sections}
use Rattle.cbf_format.specs.Catalogue.{label_width, long_name}
use Rattle.cbf_format.proofs.LineTame.{and-true, line-tame, header_line-tame, octets-tame, word-tame}
use Rattle.cbf_format.proofs.SectionTame.{header_lines-tame, headers-tame, closed-tame, binary_of, letters-tame}
use Rattle.cbf_format.proofs.SectionTame.{text, after_text, data_for-tame, after_headers, section-tame}
use Rattle.cbf_format.proofs.SectionLaws.{line-rest, letters-end}
use Rattle.cbf_format.proofs.FileLaws.{line_of, step_line-tame, step-tame, accepted}

-- the numbers of the refusals of reading, as a test: `refl` at each
abbrev pub ReadingNumber : ℕ → Type 0
ReadingNumber k = leb 1 k && leb k 11 ≡ true

-- a parser refuses with one of them, in its bytes
abbrev pub Places : {A : Type 0} → Parser A → Type 0
Places p = RefusesWithin ReadingNumber p

abbrev Test : ℕ → Option (ℕ × ℕ) → Type 0
Test m o = TestWithin ReadingNumber m o

-- ---- lines

pub line-places : Places line
line-places = record { places = λ s. go (length s) s }
  where
    go : (m : ℕ) (s : List ℕ) → Within ReadingNumber m (line s)
    go m [] = tt
    go m (x ∷ xs) = by (eqb x 10) (eqb x 13) (line xs) (go m xs)
      where
        by : (u v : Bool) (r : Res (List ℕ)) → Within ReadingNumber m r → Within ReadingNumber m (line_or u v x xs r)
        by true v r h = tt
        by false true r h = tt
        by false false (bad k p) h = h
        by false false cut h = tt
        by false false (ok t n) h = tt

line-long : Gives (λ t n. length t ≤ n) line
line-long s t n e = omega (arith, (line-rest s t n e).1)

refused_byte-test : (limit i m : ℕ) (t : List ℕ) → i + length t ≤ m → Test m (refused_byte limit i t)
refused_byte-test limit i m [] l = passes
refused_byte-test limit i m (x ∷ t) l =
    cond-within (textual x) (cond-within (ltb i limit) (refused_byte-test limit (suc i) m t (omega arith))
    (refuses refl (omega arith))) (refuses refl (omega arith))

-- a line whose text is tested
pub tested-places : (c : List ℕ → Option (ℕ × ℕ)) → ((t : List ℕ) (n : ℕ) → length t ≤ n → Test n (c t)) → Places (λ s. screen c (line s))
tested-places c h = screen-within c line-tame line-places (λ s t n e. h t n (line-long s t n e))

pub text_line-places : (limit : ℕ) → Places (text_line limit)
unfolding text_line
text_line-places limit = tested-places (refused_byte limit 0) (λ t n l. refused_byte-test limit 0 n t (omega arith))

pub header_line-places : (limit : ℕ) (first : Bool) → Places (header_line limit first)
unfolding header_line
header_line-places limit first =
    tested-places (λ t. or_malformed (refused_byte limit 0 t) (malformed first t)) (λ t n l. go (malformed first t) (refused_byte-test limit 0 n t (omega arith)))
  where
    go : {m : ℕ} {o : Option (ℕ × ℕ)} (b : Bool) → Test m o → Test m (or_malformed o b)
    go true passes = refuses {p = 0} refl (omega arith)
    go false passes = passes
    go b (refuses h l) = refuses h l

-- ---- runs of bytes

pub octets-places : (n : ℕ) → Places (exactly n)
unfolding exactly
octets-places n = record { places = λ s. go s (leb n (length s)) }
  where
    go : (s : List ℕ) (b : Bool) → Within ReadingNumber (length s) (cond b (ok (take n s) n) (bad 9 (length s)))
    go s true = tt
    go s false = (refl, omega arith)

-- ---- headers

pub header_lines-places : (limit most : ℕ) (first : Bool) (at : ℕ) → Places (header_lines limit most first at)
unfolding header_lines
header_lines-places limit zero first at = cut-within
header_lines-places limit (suc f) first at =
    bind-within (onward (λ r. counted (header_line limit first r))) (more_lines (λ m. header_lines limit f false m) at)
    (onward-tame (counted-tame (header_line-tame limit first)))
    (onward-within (counted-within (header_line-places limit first)))
    (λ tn. more (λ m. header_lines-places limit f false m) tn.0 tn.1)
  where
    more : ((m : ℕ) → Places (header_lines limit f false m)) → (t : List ℕ) (n : ℕ) → Places (more_lines (λ m. header_lines limit f false m) at (t, n))
    more ih [] n = ret-within (record { lines = []; empty = at })
    more ih (x ∷ t) n =
        bind-within (header_lines limit f false (at + n)) (λ hs. ret (add_line at (x ∷ t) hs)) (header_lines-tame limit f false (at + n)) (ih (at + n))
        (λ hs. ret-within (add_line at (x ∷ t) hs))

-- each of a list stands at one of the first m bytes, or at their end
abbrev AllWithin : {A : Type 0} → (A → ℕ) → ℕ → List A → Type 0
AllWithin at m [] = Unit {0}
AllWithin at m (x ∷ xs) = (at x ≤ m) × AllWithin at m xs

abbrev HeadersWithin : ℕ → List Header → Type 0
HeadersWithin m hs = AllWithin (λ h. h.at) m hs

record LinesWithin (m : ℕ) (hs : HeaderLines) : Type 0 where
  at_lines : AllWithin (λ l. l.0) m hs.lines
  at_empty : hs.empty ≤ m

-- header lines that start at a place, in a section's first m bytes
abbrev LinesFrom : ℕ → HeaderLines → ℕ → Type 0
LinesFrom at hs n = (m : ℕ) → at + n ≤ m → LinesWithin m hs

header_lines-lines : (limit most : ℕ) (first : Bool) (at : ℕ) → Gives (LinesFrom at) (header_lines limit most first at)
unfolding header_lines
header_lines-lines limit zero first at s hs n e = absurd (cut≢ok e)
header_lines-lines limit (suc f) first at s hs n e =
    bind-gives {P = λ tn n. tn.1 ≡ n} (LinesFrom at) (onward (λ r. counted (header_line limit first r))) (more_lines (λ m. header_lines limit f false m) at)
    (λ s tn n e. (uncount (header_line limit first s) tn n (unonward (λ r. counted (header_line limit first r)) s tn n e)).1)
    (λ tn n q. more (λ m. header_lines-lines limit f false m) tn.0 tn.1 n q)
    s hs n e
  where
    more : ((m : ℕ) → Gives (LinesFrom m) (header_lines limit f false m)) → (t : List ℕ) (k n : ℕ) → k ≡ n
        → Gives (λ hs j. LinesFrom at hs (n + j)) (more_lines (λ m. header_lines limit f false m) at (t, k))
    more ih [] k n q = λ s hs j e m l. subst (LinesWithin m) (ok-val e) (record { at_lines = tt; at_empty = omega arith })
    more ih (x ∷ t) k n q =
        bind-gives (λ hs j. LinesFrom at hs (n + j)) (header_lines limit f false (at + k)) (λ hs. ret (add_line at (x ∷ t) hs)) (ih (at + k))
        (λ hs i h s hs' j e m l.
        let w = h m (omega arith) in subst (LinesWithin m) (ok-val e) (record { at_lines = (omega arith, w.at_lines); at_empty = w.at_empty }))

group-within : (m : ℕ) (ls : List (ℕ × List ℕ)) → AllWithin (λ l. l.0) m ls → HeadersWithin m (group ls).headers
group-within m [] h = tt
group-within m (l ∷ ls) h = go (continues l.1) (split_colon l.1) (group ls) (group-within m ls h.1)
  where
    go : (b : Bool) (o : Option (List ℕ × List ℕ)) (g : Grouped) → HeadersWithin m g.headers
        → HeadersWithin m (cond b (record { headers = g.headers; text = 32 ∷ (skip l.1 ++ g.text) }) (headed l.0 o g)).headers
    go true o g i = i
    go false None g i = i
    go false (Some nv) g i = (h.0, i)

abbrev JudgedWithin : ℕ → Judged → Type 0
JudgedWithin m (refused_at p) = p ≤ m
JudgedWithin m (found fs) = Unit {0}

judge-within : (m : ℕ) (hs : List Header) (fs : List (KnownHeader × ℕ)) → HeadersWithin m hs → JudgedWithin m (judge hs fs)
unfolding judge
judge-within m [] fs h = tt
judge-within m (x ∷ hs) fs h = on (judge_header x (header_named known_headers x.name) fs)
    (header (header_named known_headers x.name)) (λ r. judge-within m hs r h.1)
  where
    value : (k : KnownHeader) (old v : Option ℕ) → JudgedWithin m (put x.at k old v fs)
    value k (Some n) v = h.0
    value k None None = h.0
    value k None (Some n) = tt

    header : (o : Option KnownHeader) → JudgedWithin m (judge_header x o fs)
    header None = tt
    header (Some k) = value k (look k fs) (value_of k x.value)

    on : (j : Judged) → JudgedWithin m j → ((r : List (KnownHeader × ℕ)) → JudgedWithin m (judge hs r)) → JudgedWithin m (judged_on (λ r. judge hs r) j)
    on (refused_at p) l ih = l
    on (found r) l ih = ih r

abbrev VerdictWithin : ℕ → Verdict → Type 0
VerdictWithin m (refuses_at k p) = ReadingNumber k × (p ≤ m)
VerdictWithin m (describes d) = Unit {0}

verdict-within : (m : ℕ) (hs : HeaderLines) → LinesWithin m hs → VerdictWithin m (verdict hs)
unfolding verdict
verdict-within m hs w = go (judge (group hs.lines).headers []) (judge-within m (group hs.lines).headers [] (group-within m hs.lines w.at_lines))
  where
    agreed : (d : Description) (b : Bool) → VerdictWithin m (cond b (describes d) (refuses_at 7 hs.empty))
    agreed d true = tt
    agreed d false = (refl, w.at_empty)

    all : (e n k : Option ℕ) (fs : List (KnownHeader × ℕ)) → VerdictWithin m (described hs.empty e n k fs)
    all (Some e) (Some n) (Some k) fs = agreed (description e n k fs) (agrees (description e n k fs))
    all None n k fs = (refl, w.at_empty)
    all (Some e) None k fs = (refl, w.at_empty)
    all (Some e) (Some n) None fs = (refl, w.at_empty)

    go : (j : Judged) → JudgedWithin m j → VerdictWithin m (verdict_of hs.empty j)
    go (refused_at p) l = (refl, l)
    go (found fs) l = all (look TransferEncoding fs) (look Size fs) (look Elements fs) fs

pub headers-places : (limit most : ℕ) → Places (headers limit most)
unfolding headers
headers-places limit most = record { places = λ s. go s (header_lines limit most true 0 s) refl ((header_lines-places limit most true 0).places s) }
  where
    by : (m n : ℕ) (v : Verdict) → VerdictWithin m v → Within ReadingNumber m (concluded_by v n)
    by m n (refuses_at k p) h = h
    by m n (describes d) h = tt

    go : (s : List ℕ) (x : Res HeaderLines) → header_lines limit most true 0 s ≡ x → Within ReadingNumber (length s) x
        → Within ReadingNumber (length s) (concluded x)
    go s (bad k p) e h = h
    go s cut e h = tt
    go s (ok hs n) e h =
        by (length s) n (verdict hs) (verdict-within (length s) hs (header_lines-lines limit most true 0 s hs n e
        (length s) (omega (arith, (header_lines-tame limit most true 0).within s hs n e))))

-- ---- BINARY

pub binary_data-places : (limit size : ℕ) → Places (binary_data limit size)
unfolding binary_data
binary_data-places limit size =
    bind-within (λ s. blame 8 (literal marker s)) (λ m. bind (exactly size) (closed_after limit size))
    (blame-tame 8 (word-tame marker)) (blame-within 8 refl (literal marker))
    (λ m. bind-within (exactly size) (closed_after limit size) (octets-tame size) (octets-places size)
    (λ os. bind-within (λ s. blame 9 (closed limit s)) (λ n. ret (binary_of size os n)) (blame-tame 9 (closed-tame limit)) (blame-within 9 refl (closed limit))
    (λ n. ret-within (binary_of size os n))))

-- ---- BASE64

refused_symbol-test : (limit i m : ℕ) (t : List ℕ) → i + length t ≤ m → Test m (refused_symbol limit i t)
refused_symbol-test limit i m [] l = passes
refused_symbol-test limit i m (x ∷ t) l =
    cond-within (textual x)
    (cond-within (ltb i limit) (cond-within (is_other (symbol x)) (refuses refl (omega arith))
    (refused_symbol-test limit (suc i) m t (omega arith))) (refuses refl (omega arith)))
    (refuses refl (omega arith))

refused_text-test : (limit : ℕ) (boundary t : List ℕ) (n : ℕ) → length t ≤ n → Test n (refused_text limit boundary t)
refused_text-test limit boundary t n l = cond-within (same t boundary) passes (refused_symbol-test limit 0 n t (omega arith))

pub letters-places : (limit : ℕ) (boundary : List ℕ) (most at : ℕ) → Places (letters limit boundary most at)
unfolding letters
letters-places limit boundary zero at = cut-within
letters-places limit boundary (suc f) at =
    bind-within (onward (λ r. counted (screen (refused_text limit boundary) (line r))))
    (λ tn. more_text (same tn.0 boundary) (λ m. letters limit boundary f m) at tn)
    (onward-tame (counted-tame (screen-tame (refused_text limit boundary) line-tame)))
    (onward-within (counted-within (tested-places (refused_text limit boundary) (refused_text-test limit boundary))))
    (λ tn. more (λ m. letters-places limit boundary f m) (same tn.0 boundary) tn)
  where
    more : ((m : ℕ) → Places (letters limit boundary f m)) → (b : Bool) (tn : List ℕ × ℕ) → Places (more_text b (λ m. letters limit boundary f m) at tn)
    more ih true tn = ret-within (record { symbols = []; closing = at })
    more ih false tn =
        bind-within (letters limit boundary f (at + tn.1)) (λ l. ret (record { symbols = add_symbols tn.0 l.symbols; closing = l.closing }))
        (letters-tame limit boundary f (at + tn.1)) (ih (at + tn.1)) (λ l. ret-within _)

-- the closing line is among the lines that were taken
letters-closing : (limit : ℕ) (boundary : List ℕ) (most : ℕ) → Gives (λ l n. l.closing ≤ n) (letters limit boundary most 0)
letters-closing limit boundary most s l n e = let i = letters-end limit boundary most 0 s l n e in omega (arith, i.place, i.sum)

good_text-test : (size m : ℕ) (l : Letters) → l.closing ≤ m → Test m (good_text size l)
good_text-test size m l h = go (sized size (decode l.symbols)) refl
  where
    go : (o : Option (List ℕ)) → sized size (decode l.symbols) ≡ o → Test m (good_text size l)
    go None q = rw q (refuses refl h)
    go (Some os) q = rw q passes

pub base64_data-places : (limit size : ℕ) → Places (base64_data limit size)
unfolding base64_data
base64_data-places limit size = record { places = λ s. go s (text limit size s) refl (text-places.places s) }
  where
    text-places : Places (text limit size)
    text-places =
        screen-within (good_text size) (letters-tame limit closing file_limit 0) (letters-places limit closing file_limit 0)
        (λ s l n e. good_text-test size n l (letters-closing limit closing file_limit s l n e))

    blamed : {A : Type 0} (m p : ℕ) → p ≤ m → (x : Res A) → Within ReadingNumber m (blame_at 9 p x)
    blamed m p l (bad k q) = (refl, l)
    blamed m p l cut = (refl, l)
    blamed m p l (ok a n) = tt

    go : (s : List ℕ) (x : Res Letters) → text limit size s ≡ x → Within ReadingNumber (length s) x → Within ReadingNumber (length s) (text_closed limit x s)
    go s (bad k p) e h = h
    go s cut e h = tt
    go s (ok l n) e h =
        let q : letters limit closing file_limit 0 s ≡ ok l n = (unscreen (good_text size) (letters limit closing file_limit 0 s) l n e).0 in
        blamed (length s) l.closing (omega (arith, letters-closing limit closing file_limit s l n q, (letters-tame limit closing file_limit 0).within s l n q))
        (plus n (after_text limit l (drop n s)))

-- ---- the section

pub data_for-places : (limit : ℕ) (e : Encoding) (size : ℕ) → Places (data_for limit e size)
data_for-places limit Binary size = binary_data-places limit size
data_for-places limit Base64 size = base64_data-places limit size

pub section-places : (limit : ℕ) (block : List ℕ) (n : ℕ) → Places (section limit block n)
unfolding section
section-places limit block n =
    bind-within (λ s. counted (headers limit file_limit s)) (after_headers limit block n) (counted-tame (headers-tame limit file_limit))
    (counted-within (headers-places limit file_limit))
    (λ dm. bind-within (data_for limit dm.0.encoding dm.0.size) (λ d. ret (section_of block n dm d))
    (data_for-tame limit dm.0.encoding dm.0.size) (data_for-places limit dm.0.encoding dm.0.size) (λ d. ret-within (section_of block n dm d)))

-- ---- a step

pub step_line-places : (limit : ℕ) (f : Field) → Places (step_line limit f)
step_line-places limit first_line =
    tested-places (refused_first limit) (λ t n l. cond-within (identified t) (refused_byte-test limit 0 n t (omega arith)) (refuses refl (omega arith)))
step_line-places limit outside = text_line-places limit
step_line-places limit (opened m) = text_line-places limit
step_line-places limit (inside m) = text_line-places limit

pub step-places : (limit : ℕ) (st : State) → Places (step limit st)
unfolding step
step-places limit st =
    bind-within (line_of limit st) (after_step_line limit st) (counted-tame (screen-tame (one_too_many st) (step_line-tame limit st.field)))
    (counted-within (screen-within (one_too_many st) (step_line-tame limit st.field) (step_line-places limit st.field)
    (λ s t n e. cond-within (is_boundary st t && leb 512 st.count) (refuses refl (omega arith)) passes)))
    (λ tn. either (is_boundary st tn.0) tn)
  where
    after : Section → Parser (Option Section × State)
    after i = ret (Some i, after_section st)

    either : (b : Bool) (tn : List ℕ × ℕ) → Places (section_or b (bind (section limit st.block tn.1) after) (ret (None, after_line st tn.0 tn.1)))
    either true tn =
        bind-within (section limit st.block tn.1) after (section-tame limit st.block tn.1) (section-places limit st.block tn.1)
        (λ i. ret-within (Some i, after_section st))
    either false tn = ret-within (None, after_line st tn.0 tn.1)

-- ---- reading

pub read-place : (limit : ℕ) (file : List ℕ) (k p : ℕ) → read limit file ≡ refused k p → (1 ≤ k) × (k ≤ 11) × (p ≤ length file)
unfolding read
read-place limit file k p e = last (subst (ReadingWithin ReadingNumber (length file)) e (go (leb (length file) file_limit)))
  where
    nonempty : (s : List ℕ) → ReadingWithin ReadingNumber (length s) (read_some limit s)
    nonempty [] = (refl, omega arith)
    nonempty (x ∷ s) = read-within 11 (step limit) due refl (step-tame limit) (step-places limit) (length (x ∷ s)) file_limit 0 start (x ∷ s) (omega arith)

    go : (b : Bool) → ReadingWithin ReadingNumber (length file) (cond b (read_some limit file) (refused 4 0))
    go true = nonempty file
    go false = (refl, omega arith)

    last : ReadingNumber k × (p ≤ length file) → (1 ≤ k) × (k ≤ 11) × (p ≤ length file)
    last h = let u = and-true (leb 1 k) (leb k 11) h.0 in (leb-true 1 k u.0, leb-true k 11 u.1, h.1)

-- and so no place is above the file limit
pub read-limit : (limit : ℕ) (file : List ℕ) (k p : ℕ) → read limit file ≡ refused k p → p ≤ file_limit
unfolding read
read-limit limit file k p e = go (leb (length file) file_limit) refl
  where
    place : Reading (Item State Section) → ℕ
    place (refused k p) = p
    place (good its) = 0

    go : (b : Bool) → leb (length file) file_limit ≡ b → p ≤ file_limit
    go true h = omega (arith, leb-true (length file) file_limit h, (read-place limit file k p e).2)
    go false h = let q : 0 ≡ p = ap place (rw h at e) in omega (arith, q)

-- ---- the section of a long name

pub long-name-from : (at : ℕ) (its : Tree) (b : ℕ) → long_name (sections at its) ≡ Some b → b ≤ at + length (flat its)
unfolding long_name sections flat
long-name-from at [] b e = let z : ◌≡◌ {A = ℕ} 0 1 = cc in absurd (omega arith)
long-name-from at (it ∷ its) b e = go (λ q. omega (arith, long-name-from (at + length it.bytes) its b q, length-append it.bytes (flat its))) it.info e
  where
    rest : List Placed
    rest = sections (at + length it.bytes) its

    go : (long_name rest ≡ Some b → b ≤ at + length (it.bytes ++ flat its)) → (o : Option Section) → long_name (add_placed at o rest) ≡ Some b
        → b ≤ at + length (it.bytes ++ flat its)
    go later None q = later q
    go later (Some i) q = either (leb (length i.block) label_width) q
      where
        either : (t : Bool) → cond t (long_name rest) (Some at) ≡ Some b → b ≤ at + length (it.bytes ++ flat its)
        either true q = later q
        either false q = let p : at ≡ b = cc in omega arith

pub long-name-place : (limit : ℕ) (file : List ℕ) (its : Tree) (b : ℕ) → read limit file ≡ good its → long_name (sections 0 its) ≡ Some b → b ≤ length file
long-name-place limit file its b e q = omega (arith, long-name-from 0 its b q, ap length (accepted limit file its e).whole)
