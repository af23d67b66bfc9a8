-- The headers of house form are read as what they were written from. Assumes nothing.
use mathlib.Core.Path.{◌≡◌, refl, ap, ◌∙◌}
use Rattle.std.specs.Prelude.{Option, None, Some}
use Rattle.std.specs.Prelude.{unwrap_or}
use mathlib.Core.Bool.{Bool, true, false}
use mathlib.Core.List.{List, [], ◌∷◌, ◌++◌}
use Prim.Native.Nat.{ℕ, zero, suc, ◌+◌, ◌*◌, ◌≤◌, ◌<◌}
use native.Mathlib.Omega.{arith}
use lib.Dec.{leb, ltb}
use borrow.Author.Tests.{le-leb, leb-true, ltb-true, eq-eqb}
use lib.ListN.{length}
use Rattle.cbf_walk.specs.Parsers.{ok}
use Rattle.cbf_pixels.specs.declared.ElementType.{ElementType}
use Rattle.cbf_pixels.specs.declared.ElementType.TheVariants.{U8, S8, U16, S16, U32, S32}
use Rattle.cbf_pixels.specs.declared.Compression.TheVariants.{ByteOffset}
use Rattle.cbf_format.specs.declared.Encoding.TheVariants.{Binary}
use Rattle.cbf_format.specs.Text.{bytes, trim}
use Rattle.cbf_format.specs.Lines.{refused_byte}
use Rattle.cbf_format.specs.Headers.{split_colon, malformed, group}
use Rattle.cbf_format.specs.declared.KnownHeader.{KnownHeader}
use Rattle.cbf_format.specs.declared.KnownHeader.TheVariants.{TransferEncoding, Size, Elements, ContentType}
use Rattle.cbf_format.specs.declared.KnownHeader.TheVariants.{Kind, ByteOrder, Id, Fastest, Second, Third}
use Rattle.cbf_format.specs.Values.{decimal_number, between, known_headers, header_named, type_words, value_of}
use Rattle.cbf_format.specs.declared.Description.{Description}
use Rattle.cbf_format.specs.Descriptions.{found, ordinal, same_header, look, judge, dimensions_agree, description_of}
use Rattle.cbf_format.specs.Descriptions.{description, optional, or_zero, compression_of, type_of, described}
use Rattle.cbf_format.specs.Descriptions.{or_disagrees, describes, verdict_of, verdict, concluded, headers}
use Rattle.cbf_answers.specs.Limits.{file_limit, pixel_limit}
use Rattle.cbf_format.specs.Listing.{printed}
use Rattle.cbf_pixels.specs.Numbers.{type_number}
use Rattle.cbf_format.specs.House.{ended_lines, number_line, house_lines}
use Rattle.cbf_format.proofs.VerdictLaws.{Known}
use Rattle.cbf_format.proofs.DecimalLaws.{decimal-printed, number-printed, refused-digits, trim_digits}
use Rattle.cbf_format.proofs.HeaderLaws.{AllWritten, placed, header_lines-ended, Gives, Say, say-none, say-line}

-- the longest line: `X-Binary-Element-Type: "unsigned 32-bit integer"`
abbrev longest : ℕ
longest = 48

-- what is read of a line as header k, with this name and this value
abbrev Seen : Type 0
Seen = Bool × Option (List ℕ × List ℕ) × Option KnownHeader × Option ℕ × Option (ℕ × ℕ)

abbrev seen : KnownHeader → List ℕ → List ℕ → List ℕ → Seen
seen k l name value = (malformed true l, split_colon l, header_named known_headers name, value_of k (trim value), refused_byte longest 0 l)

gives : (k : KnownHeader) (n : ℕ) (l name value : List ℕ) → seen k l name value ≡ (false, Some (name, value), Some k, Some n, None) → Gives longest k n l
gives k n l name value e = record {
  name = name;
  value = value;
  formed = ap (λ (s : Seen). s.0) e;
  split = ap (λ (s : Seen). s.1) e;
  is_known = ap (λ (s : Seen). s.2) e;
  is_value = ap (λ (s : Seen). s.3) e;
  fine = ap (λ (s : Seen). s.4) e;
}

-- ---- lines with a number

abbrev start : List ℕ → List ℕ
start name = name ++ bytes ": "

-- the name of header k, whose value is a number of at most 10 digits within these bounds
abbrev Names : KnownHeader → ℕ → ℕ → List ℕ → Type 0
Names k least most name = (v : List ℕ)
    → ◌≡◌ {A = Bool × Bool × Seen} (leb (length (start name)) 38, ltb most 10_000_000_000, seen k (start name ++ v) name (32 ∷ v))
    (true, true, (false, Some (name, 32 ∷ v), Some k, between least most (decimal_number (trim v)), refused_byte longest (length (start name)) v))

-- what is found with the value of header k, if there is one
abbrev adding : KnownHeader → Option ℕ → List (KnownHeader × ℕ) → List (KnownHeader × ℕ)
adding k None fs = fs
adding k (Some n) fs = (k, n) ∷ fs

look-other : (j k : KnownHeader) (o : Option ℕ) (fs : List (KnownHeader × ℕ)) → same_header j k ≡ false → look j (adding k o fs) ≡ look j fs
look-other j k None fs h = refl
look-other j k (Some n) fs h = rw h

look-same : (k : KnownHeader) (o : Option ℕ) (fs : List (KnownHeader × ℕ)) → look k fs ≡ None → look k (adding k o fs) ≡ o
look-same k None fs h = h
look-same k (Some n) fs h = rw (eq-eqb (ordinal k) (ordinal k) refl)

module _ (k : KnownHeader) (least most : ℕ) (name : List ℕ) (names : Names k least most name) where
  gives-number : (n : ℕ) → least ≤ n → n ≤ most → Gives longest k n (start name ++ printed n)
  gives-number n l h =
      let e = names (printed n) in
      let short = leb-true (length (start name)) 38 (ap (λ (s : Bool × Bool × Seen). s.0) e) in
      let few = ltb-true most 10_000_000_000 (ap (λ (s : Bool × Bool × Seen). s.1) e) in
      let u = decimal-printed n (omega arith) in
      gives k n (start name ++ printed n) name (32 ∷ printed n)
      (ap (λ (s : Bool × Bool × Seen). s.2) e
      ∙ rw (
        trim_digits (printed n) u.all_digits,
        number-printed n (omega arith),
        le-leb least n l,
        le-leb n most h,
        refused-digits longest (length (start name)) (printed n) u.all_digits (omega arith),
      ))

  -- a number, and one that may be absent
  say-number : {n lines : ℕ} {ls : List (List ℕ)} {before after : List (KnownHeader × ℕ)} → least ≤ n → n ≤ most → look k before ≡ None
      → Say longest lines ls ((k, n) ∷ before) after → Say longest (suc lines) ((start name ++ printed n) ∷ ls) before after
  say-number {n} l h e s = say-line (gives-number n l h) e s

  say-optional : (m : ℕ) {lines : ℕ} {ls : List (List ℕ)} {before after : List (KnownHeader × ℕ)} → least ≤ 1 → m ≤ most → look k before ≡ None
      → Say longest lines ls (adding k (optional m) before) after → Say longest (suc lines) (number_line (start name) (optional m) ls) before after
  say-optional zero l h e s = record { few = omega arith; written = s.written; whole = s.whole; judged = s.judged }
  say-optional (suc n) l h e s = say-number (omega arith) h e s

-- ---- the line with the type

gives-type : (t : ElementType) → Gives longest Kind (type_number t) (bytes "X-Binary-Element-Type: \"" ++ (type_words t ++ bytes "\""))
gives-type t = gives Kind (type_number t) _ (bytes "X-Binary-Element-Type") (bytes " \"" ++ (type_words t ++ bytes "\"")) (go t)
  where
    go : (t : ElementType)
        → seen Kind (bytes "X-Binary-Element-Type: \"" ++ (type_words t ++ bytes "\"")) (bytes "X-Binary-Element-Type")
        (bytes " \"" ++ (type_words t ++ bytes "\""))
        ≡ (false, Some (bytes "X-Binary-Element-Type", bytes " \"" ++ (type_words t ++ bytes "\"")), Some Kind, Some (type_number t), None)
    go U8 = refl
    go S8 = refl
    go U16 = refl
    go S16 = refl
    go U32 = refl
    go S32 = refl

-- ---- all lines

-- all lines of a section's headers, after which these are found
abbrev SayAll : List (List ℕ) → List (KnownHeader × ℕ) → Type 0
SayAll ls after = (length ls < file_limit) × AllWritten longest true ls × (judge (group (placed 0 ls)).headers [] ≡ found after)

-- the first two are one header
say-first : {lines : ℕ} {ls : List (List ℕ)} {after : List (KnownHeader × ℕ)} → lines + 2 < file_limit → Say longest lines ls ((ContentType, 1) ∷ []) after
    → SayAll (bytes "Content-Type: application/octet-stream;" ∷ bytes "     conversions=\"x-CBF_BYTE_OFFSET\"" ∷ ls) after
unfolding AllWritten placed judge
say-first h s = (
  omega arith,
  (record { some_byte = omega arith; fine = refl; formed = refl }, (record { some_byte = omega arith; fine = refl; formed = refl }, s.written)),
  rw (s.whole 79) (s.judged 79),
)

-- what is found
abbrev house_found : ℕ → Description → List (KnownHeader × ℕ)
house_found size d =
    adding Third (optional d.third)
    (adding Second (optional d.second)
    (adding Fastest (optional d.fastest)
    ((Elements, d.elements) ∷ (ByteOrder, 1) ∷ (Kind, type_number d.kind)
    ∷ adding Id (optional d.id) ((Size, size) ∷ (TransferEncoding, 0) ∷ (ContentType, 1) ∷ []))))

module _ (size : ℕ) (d : Description) (known : Known d) (fits : size ≤ file_limit) where
  say-house : SayAll (house_lines size d) (house_found size d)
  unfolding house_lines
  say-house =
      say-first (omega arith)
      (say-line (gives TransferEncoding 0 _ (bytes "Content-Transfer-Encoding") (bytes " BINARY") refl) refl
      (say-number Size 0 file_limit (bytes "X-Binary-Size") (λ v. refl) (omega arith) fits refl
      (say-optional Id 1 2_147_483_647 (bytes "X-Binary-ID") (λ v. refl) d.id (omega arith) known.id_in refl
      (say-line (gives-type d.kind) (simp look-other)
      (say-line (gives ByteOrder 1 _ (bytes "X-Binary-Element-Byte-Order") (bytes " LITTLE_ENDIAN") refl) (simp look-other)
      (say-number Elements 0 pixel_limit (bytes "X-Binary-Number-of-Elements") (λ v. refl) (omega arith) known.few (simp look-other)
      (say-optional Fastest 1 pixel_limit (bytes "X-Binary-Size-Fastest-Dimension") (λ v. refl) d.fastest (omega arith) known.fastest_in (simp look-other)
      (say-optional Second 1 pixel_limit (bytes "X-Binary-Size-Second-Dimension") (λ v. refl) d.second (omega arith) known.second_in (simp look-other)
      (say-optional Third 1 pixel_limit (bytes "X-Binary-Size-Third-Dimension") (λ v. refl) d.third (omega arith) known.third_in (simp look-other)
      (say-none longest (house_found size d)))))))))))

-- ---- what the headers say

type-numbered : (t : ElementType) → type_of (type_number t) ≡ t
type-numbered U8 = refl
type-numbered S8 = refl
type-numbered U16 = refl
type-numbered S16 = refl
type-numbered U32 = refl
type-numbered S32 = refl

optional-value : (n : ℕ) → or_zero (optional n) ≡ n
optional-value zero = refl
optional-value (suc n) = refl

-- what is read of house form with that many octets
abbrev pub housed : ℕ → Description → Description
housed size d = description_of Binary size d.elements ByteOffset d.kind d.id d.fastest d.second d.third

module _ (size : ℕ) (d : Description) where
  abbrev all : List (KnownHeader × ℕ)
  all = house_found size d

  house-said : description 0 size d.elements all ≡ housed size d
  house-said =
      let c : look ContentType all ≡ Some 1 = simp look-other in
      let t : look Kind all ≡ Some (type_number d.kind) = simp look-other in
      let n : look Id all ≡ optional d.id = simp (look-other, look-same) in
      let f : look Fastest all ≡ optional d.fastest = simp (look-other, look-same) in
      let g : look Second all ≡ optional d.second = simp (look-other, look-same) in
      let h : look Third all ≡ optional d.third = simp (look-other, look-same) in
      λ i. description_of Binary size d.elements (compression_of (or_zero (c i)))
      ((ap (λ (o : Option ℕ). type_of (unwrap_or o 5)) t ∙ type-numbered d.kind) i)
      ((ap or_zero n ∙ optional-value d.id) i) ((ap or_zero f ∙ optional-value d.fastest) i)
      ((ap or_zero g ∙ optional-value d.second) i) ((ap or_zero h ∙ optional-value d.third) i)

  house-described : (empty : ℕ) → d.elements ≤ size → size ≤ 15 * d.elements
      → dimensions_agree (optional d.fastest) (optional d.second) (optional d.third) d.elements ≡ true
      → verdict_of empty (found all) ≡ describes (housed size d)
  house-described empty l h a =
      let e : look TransferEncoding all ≡ Some 0 = simp look-other in
      let n : look Size all ≡ Some size = simp look-other in
      let k : look Elements all ≡ Some d.elements = simp look-other in
      (λ i. described empty (e i) (n i) (k i) all)
      ∙ ap (or_disagrees empty) house-said
      ∙ rw (le-leb d.elements size l, le-leb size (15 * d.elements) h, a)

-- the headers of house form
pub headers-house : (limit size : ℕ) (d : Description) (r : List ℕ) → 48 ≤ limit → Known d → size ≤ file_limit → d.elements ≤ size → size ≤ 15 * d.elements
    → headers limit file_limit (ended_lines (house_lines size d) ++ (13 ∷ 10 ∷ r)) ≡ ok (housed size d) (length (ended_lines (house_lines size d)) + 2)
unfolding headers verdict
headers-house limit size d r m k fits low high =
    let s = say-house size d k fits in
    ap concluded (header_lines-ended longest limit file_limit true 0 (house_lines size d) r m s.0 s.1)
    ∙ rw s.2 (rw (house-described size d (0 + length (ended_lines (house_lines size d))) low high k.agree))
