-- What a section's headers say of it: refusals 6 and 7. Document 01, "A section's headers".
use Rattle.std.specs.Prelude.{Option, None, Some}
use Rattle.std.specs.Prelude.{unwrap_or}
use Rattle.std.specs.Prelude.{Bool, true, false, ◌&&◌, cond, List, [], ◌∷◌, ℕ, zero, suc, ◌*◌, leb, eqb}
use Rattle.cbf_walk.specs.Parsers.{Res, bad, cut, ok, Parser}
use Rattle.cbf_pixels.specs.declared.ElementType.{ElementType}
use Rattle.cbf_pixels.specs.declared.ElementType.TheVariants.{U8, S8, U16, S16, U32, S32}
use Rattle.cbf_pixels.specs.declared.Compression.{Compression}
use Rattle.cbf_pixels.specs.declared.Compression.TheVariants.{Uncompressed, ByteOffset}
use Rattle.cbf_pixels.specs.Uncompressed.{octets_per}
use Rattle.cbf_format.specs.declared.KnownHeader.{KnownHeader}
use Rattle.cbf_format.specs.declared.KnownHeader.TheVariants.{TransferEncoding, Size, Elements, ContentType}
use Rattle.cbf_format.specs.declared.KnownHeader.TheVariants.{Kind, ByteOrder, Id, Fastest, Second, Third}
use Rattle.cbf_format.specs.declared.Description.{Description}
use Rattle.cbf_format.specs.declared.Encoding.{Encoding}
use Rattle.cbf_format.specs.declared.Encoding.TheVariants.{Binary, Base64}
use Rattle.cbf_format.specs.Headers.{Header, HeaderLines, header_lines, group}
use Rattle.cbf_format.specs.Values.{known_headers, header_named, value_of}

-- a description of these parts
abbrev pub description_of : Encoding → ℕ → ℕ → Compression → ElementType → ℕ → ℕ → ℕ → ℕ → Description
description_of encoding size elements compression kind id fastest second third =
    record {
      encoding = encoding;
      size = size;
      elements = elements;
      compression = compression;
      kind = kind;
      id = id;
      fastest = fastest;
      second = second;
      third = third;
    }

-- an ID or a dimension of a description, where 0 stands for none
abbrev pub optional : ℕ → Option ℕ
optional zero = None
optional (suc n) = Some (suc n)

-- ---- "6 over the headers in file order": the known headers with their values, or the place of the header that is
-- repeated or has a bad value

pub data Judged : Type 0 where
  refused_at : ℕ → Judged
  found : List (KnownHeader × ℕ) → Judged

-- a number of each header, by which two are told apart
abbrev pub ordinal : KnownHeader → ℕ
ordinal TransferEncoding = 0
ordinal Size = 1
ordinal Elements = 2
ordinal ContentType = 3
ordinal Kind = 4
ordinal ByteOrder = 5
ordinal Id = 6
ordinal Fastest = 7
ordinal Second = 8
ordinal Third = 9

abbrev pub same_header : KnownHeader → KnownHeader → Bool
same_header j k = eqb (ordinal j) (ordinal k)

abbrev pub look : KnownHeader → List (KnownHeader × ℕ) → Option ℕ
look k [] = None
look k (f ∷ fs) = let r = look k fs in cond (same_header k f.0) (Some f.1) r

-- the value of header k at a place, where `old` was found before
abbrev pub put : ℕ → KnownHeader → Option ℕ → Option ℕ → List (KnownHeader × ℕ) → Judged
put at k (Some old) v fs = refused_at at
put at k None None fs = refused_at at
put at k None (Some n) fs = found ((k, n) ∷ fs)

-- "Other headers are passed over"
abbrev pub judge_header : Header → Option KnownHeader → List (KnownHeader × ℕ) → Judged
judge_header h None fs = found fs
judge_header h (Some k) fs = put h.at k (look k fs) (value_of k h.value) fs

abbrev pub judge_on : (List (KnownHeader × ℕ) → Judged) → Judged → Judged
judge_on go (refused_at p) = refused_at p
judge_on go (found fs) = go fs

unfoldable pub judge : List Header → List (KnownHeader × ℕ) → Judged
judge [] fs = found fs
judge (h ∷ hs) fs = judge_on (λ r. judge hs r) (judge_header h (header_named known_headers h.name) fs)

-- ---- 7: "Counts agree when"

abbrev pub size_agrees : Compression → ElementType → ℕ → ℕ → Bool
size_agrees Uncompressed t size elements = eqb size (elements * octets_per t)
size_agrees ByteOffset t size elements = leb elements size && leb size (15 * elements)

-- "Second only with Fastest, Third only with Second; with Fastest given, the product of the given dimensions =
-- elements"
abbrev pub dimensions_agree : Option ℕ → Option ℕ → Option ℕ → ℕ → Bool
dimensions_agree None None None e = true
dimensions_agree None None (Some c) e = false
dimensions_agree None (Some b) c e = false
dimensions_agree (Some a) None None e = eqb a e
dimensions_agree (Some a) None (Some c) e = false
dimensions_agree (Some a) (Some b) None e = eqb (a * b) e
dimensions_agree (Some a) (Some b) (Some c) e = eqb (a * b * c) e

abbrev pub agrees : Description → Bool
agrees d =
    size_agrees d.compression d.kind d.size d.elements
    && dimensions_agree (optional d.fastest) (optional d.second) (optional d.third) d.elements

-- ---- the description, or a refusal and its place after the boundary line

pub data Verdict : Type 0 where
  headers_refused : ℕ → ℕ → Verdict
  describes : Description → Verdict

abbrev pub encoding_of : ℕ → Encoding
encoding_of zero = Binary
encoding_of (suc k) = Base64

abbrev pub compression_of : ℕ → Compression
compression_of zero = Uncompressed
compression_of (suc k) = ByteOffset

abbrev pub type_of : ℕ → ElementType
type_of k = cond (leb k 3) (cond (leb k 1) U8 (cond (leb k 2) S8 U16)) (cond (leb k 4) S16 (cond (leb k 5) U32 S32))

abbrev pub or_zero : Option ℕ → ℕ
or_zero n = unwrap_or n 0

-- "Absent: unsigned 32-bit integer"
abbrev pub description : ℕ → ℕ → ℕ → List (KnownHeader × ℕ) → Description
description e n k fs =
    description_of (encoding_of e) n k (compression_of (or_zero (look ContentType fs))) (type_of (unwrap_or (look Kind fs) 5))
    (or_zero (look Id fs)) (or_zero (look Fastest fs)) (or_zero (look Second fs)) (or_zero (look Third fs))

abbrev pub or_disagrees : ℕ → Description → Verdict
or_disagrees empty d = cond (agrees d) (describes d) (headers_refused 7 empty)

-- "needed one missing .. the empty line"
abbrev pub described : ℕ → Option ℕ → Option ℕ → Option ℕ → List (KnownHeader × ℕ) → Verdict
described empty (Some e) (Some n) (Some k) fs = or_disagrees empty (description e n k fs)
described empty None n k fs = headers_refused 6 empty
described empty (Some e) None k fs = headers_refused 6 empty
described empty (Some e) (Some n) None fs = headers_refused 6 empty

abbrev pub verdict_of : ℕ → Judged → Verdict
verdict_of empty (refused_at p) = headers_refused 6 p
verdict_of empty (found fs) = described empty (look TransferEncoding fs) (look Size fs) (look Elements fs) fs

unfoldable pub verdict : HeaderLines → Verdict
verdict hs = verdict_of hs.empty (judge (group hs.lines).headers [])

abbrev pub concluded_by : Verdict → ℕ → Res Description
concluded_by (headers_refused k p) n = bad k p
concluded_by (describes d) n = ok d n

abbrev pub concluded : Res HeaderLines → Res Description
concluded (bad k p) = bad k p
concluded cut = cut
concluded (ok hs n) = concluded_by (verdict hs) n

-- the headers and the empty line after them, in at most `most` lines
unfoldable pub headers : ℕ → ℕ → Parser Description
headers limit most s = concluded (header_lines limit most true 0 s)
