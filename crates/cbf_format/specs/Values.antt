-- The values of the known headers, each as a number. Document 01, "A section's headers".
use Rattle.std.specs.Prelude.{Option, None, Some}
use Rattle.std.specs.Prelude.{Bool, true, false, ◌&&◌, cond, not, List, [], ◌∷◌, ℕ, suc, ◌+◌, ◌*◌, ◌-◌, leb, eqb, length}
use Rattle.cbf_answers.specs.Limits.{file_limit, pixel_limit}
use Rattle.cbf_pixels.specs.declared.ElementType.{ElementType}
use Rattle.cbf_pixels.specs.declared.ElementType.TheVariants.{U8, S8, U16, S16, U32, S32}
use Rattle.cbf_format.specs.declared.KnownHeader.{KnownHeader}
use Rattle.cbf_format.specs.declared.KnownHeader.TheVariants.{TransferEncoding, Size, Elements, ContentType}
use Rattle.cbf_format.specs.declared.KnownHeader.TheVariants.{Kind, ByteOrder, Id, Fastest, Second, Third}
use Rattle.cbf_format.specs.declared.Conversion.{Conversion}
use Rattle.cbf_format.specs.declared.Conversion.TheVariants.{Unseen, Seen, Wrong}
use Rattle.cbf_format.specs.Text.{bytes, digit, lowers, same, trim, before, after}

-- "Numbers are 1 to 10 digits"
abbrev pub digits : List ℕ → Bool
digits [] = true
digits (x ∷ t) = digit x && digits t

abbrev pub decimal : ℕ → List ℕ → ℕ
decimal n [] = n
decimal n (x ∷ t) = decimal (n * 10 + (x - 48)) t

unfoldable pub decimal_number : List ℕ → Option ℕ
decimal_number t = cond ((leb 1 (length t) && leb (length t) 10) && digits t) (Some (decimal 0 t)) None

abbrev pub between : ℕ → ℕ → Option ℕ → Option ℕ
between least most None = None
between least most (Some n) = cond (leb least n && leb n most) (Some n) None

-- which of the words, which are in lower case, the text is in any case, counted from k
abbrev pub one_of : ℕ → List (List ℕ) → List ℕ → Option ℕ
one_of k [] t = None
one_of k (w ∷ ws) t = let r = one_of (suc k) ws t in cond (same w (lowers t)) (Some k) r

-- "quoted or not": without one pair of double quotes around it; none where only one is there
abbrev pub add_quoted : ℕ → Option (List ℕ) → Option (List ℕ)
add_quoted x None = None
add_quoted x (Some t) = Some (x ∷ t)

abbrev pub end_quote : List ℕ → Option (List ℕ)
end_quote [] = None
end_quote (x ∷ []) = cond (eqb x 34) (Some []) None
end_quote (x ∷ y ∷ t) = add_quoted x (end_quote (y ∷ t))

abbrev pub unquote : List ℕ → Option (List ℕ)
unquote [] = Some []
unquote (x ∷ t) = cond (eqb x 34) (end_quote t) (Some (x ∷ t))

abbrev pub quoted_one_of : ℕ → List (List ℕ) → Option (List ℕ) → Option ℕ
quoted_one_of k ws None = None
quoted_one_of k ws (Some t) = one_of k ws t

-- ---- Content-Type: "split at `;` outside double quotes", none for "an unclosed quote"

abbrev pub add_to_part : ℕ → Option (List (List ℕ)) → Option (List (List ℕ))
add_to_part x None = None
add_to_part x (Some []) = Some ((x ∷ []) ∷ [])
add_to_part x (Some (p ∷ ps)) = Some ((x ∷ p) ∷ ps)

abbrev pub new_part : Option (List (List ℕ)) → Option (List (List ℕ))
new_part None = None
new_part (Some ps) = Some ([] ∷ ps)

abbrev pub parts : Bool → List ℕ → Option (List (List ℕ))
parts quoted [] = cond quoted None (Some ([] ∷ []))
parts quoted (x ∷ t) = let r = parts (cond (eqb x 34) (not quoted) quoted) t in cond (eqb x 59 && not quoted) (new_part r) (add_to_part x r)

-- "a later part whose text before any `=` is `conversions`, at most one, must have the value `x-CBF_BYTE_OFFSET`"
abbrev pub given : Conversion → Option ℕ → Conversion
given Unseen (Some k) = Seen
given Unseen None = Wrong
given Seen v = Wrong
given Wrong v = Wrong

abbrev pub with_part : Conversion → List ℕ → Conversion
with_part c p =
    cond (same (bytes "conversions") (lowers (trim (before 61 p))))
    (given c (quoted_one_of 1 (bytes "x-cbf_byte_offset" ∷ []) (unquote (trim (after 61 p)))))
    c

-- "None means no compression": 0, and 1 for byte offset
abbrev pub conversions : Conversion → List (List ℕ) → Option ℕ
conversions Unseen [] = Some 0
conversions Seen [] = Some 1
conversions Wrong [] = None
conversions c (p ∷ ps) = conversions (with_part c p) ps

-- the first part is free
abbrev pub content_type : Option (List (List ℕ)) → Option ℕ
content_type None = None
content_type (Some []) = Some 0
content_type (Some (p ∷ ps)) = conversions Unseen ps

-- ---- the known headers

-- "Names and word values ignore case": in lower case
abbrev pub name_of : KnownHeader → List ℕ
name_of TransferEncoding = bytes "content-transfer-encoding"
name_of Size = bytes "x-binary-size"
name_of Elements = bytes "x-binary-number-of-elements"
name_of ContentType = bytes "content-type"
name_of Kind = bytes "x-binary-element-type"
name_of ByteOrder = bytes "x-binary-element-byte-order"
name_of Id = bytes "x-binary-id"
name_of Fastest = bytes "x-binary-size-fastest-dimension"
name_of Second = bytes "x-binary-size-second-dimension"
name_of Third = bytes "x-binary-size-third-dimension"

-- in the order listed
abbrev pub known_headers : List KnownHeader
known_headers = TransferEncoding ∷ Size ∷ Elements ∷ ContentType ∷ Kind ∷ ByteOrder ∷ Id ∷ Fastest ∷ Second ∷ Third ∷ []

-- the header of a list whose name the text is, in any case
abbrev pub header_named : List KnownHeader → List ℕ → Option KnownHeader
header_named [] t = None
header_named (h ∷ hs) t = let r = header_named hs t in cond (same (name_of h) (lowers t)) (Some h) r

-- "unsigned or signed, 8, 16 or 32"
abbrev pub type_words : ElementType → List ℕ
type_words U8 = bytes "unsigned 8-bit integer"
type_words S8 = bytes "signed 8-bit integer"
type_words U16 = bytes "unsigned 16-bit integer"
type_words S16 = bytes "signed 16-bit integer"
type_words U32 = bytes "unsigned 32-bit integer"
type_words S32 = bytes "signed 32-bit integer"

-- numbered as in the catalogue, from 1
abbrev pub type_names : List (List ℕ)
type_names = type_words U8 ∷ type_words S8 ∷ type_words U16 ∷ type_words S16 ∷ type_words U32 ∷ type_words S32 ∷ []

-- the value of a known header, none where it is bad
abbrev pub value_of : KnownHeader → List ℕ → Option ℕ
value_of TransferEncoding v = one_of 0 (bytes "binary" ∷ bytes "base64" ∷ []) v
value_of Size v = between 0 file_limit (decimal_number v)
value_of Elements v = between 0 pixel_limit (decimal_number v)
value_of ContentType v = content_type (parts false v)
value_of Kind v = quoted_one_of 1 type_names (unquote v)
value_of ByteOrder v = quoted_one_of 1 (bytes "little_endian" ∷ []) (unquote v)
value_of Id v = between 1 2_147_483_647 (decimal_number v)
value_of Fastest v = between 1 pixel_limit (decimal_number v)
value_of Second v = between 1 pixel_limit (decimal_number v)
value_of Third v = between 1 pixel_limit (decimal_number v)
