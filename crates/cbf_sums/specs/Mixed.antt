-- What mixed.rt says of its work: 192 octets, of which some are escapes, passed at once. Nothing here is part of what
-- the public calls promise.
use Rattle.std.specs.Prelude.{◌≡◌, ℕ, zero, suc, ◌+◌, ◌-◌, ◌*◌, ◌<◌, ◌≤◌, cond, ◌⊎◌, List, length, pos, ◌+ℤ◌, ◌==◌, bit_and, bit_or, bit_xor, nat_lt, slice_index}
use Rattle.cbf_pixels.specs.Octets.{signed}

-- ---- marks: 255 for the escape, else 0

unfoldable pub mark_of : ℕ → ℕ
mark_of o = cond (o == 128) 255 0

-- the mark of the octet j behind i
abbrev pub mark_at : List ℕ → ℕ → ℕ → ℕ
mark_at os i j = mark_of (slice_index os (i + j))

abbrev pub IsMark : ℕ → Type 0
IsMark m = (m ≡ 0) ⊎ (m ≡ 255)

abbrev pub EachMark : List ℕ → Type 0
EachMark ms = (k : ℕ) → k < 208 → IsMark (slice_index ms k)

-- no mark stands within two behind another
abbrev pub Apart : List ℕ → Type 0
Apart ms = (j : ℕ) → j < 192 → bit_and (slice_index ms (16 + j)) (bit_or (slice_index ms (15 + j)) (slice_index ms (14 + j))) ≡ 0

-- 1 where a difference ends: at an octet with the mark c, and b before it
unfoldable pub end_mark : ℕ → ℕ → ℕ
end_mark b c = cond (nat_lt 0 (b + c)) 0 1

-- how many differences end in the first n octets
unfoldable pub ends_to : List ℕ → ℕ → ℕ
unfolding end_mark
ends_to ms zero = 0
ends_to ms (suc n) = ends_to ms n + end_mark (slice_index ms (15 + n)) (slice_index ms (16 + n))

-- how many of the octets are of whole differences
unfoldable pub whole_octets : List ℕ → ℕ
whole_octets ms = cond (nat_lt 0 (slice_index ms 207)) 191 (cond (nat_lt 0 (slice_index ms 206)) 190 192)

-- ---- what an octet adds to the pixel before it, as a number of 16 bits

-- by the marks of an octet and of the two before it: x where it is plain, y where it is two behind an escape, else 0
unfoldable pub choose : ℕ → ℕ → ℕ → ℕ → ℕ → ℕ
choose a b c x y = cond (nat_lt 0 a) y (cond (nat_lt 0 (b + c)) 0 x)

-- the octet that a plain octet is extended by
unfoldable pub sign_of : ℕ → ℕ
sign_of o = cond (nat_lt o 128) 0 255

abbrev pub low_at : List ℕ → ℕ → List ℕ → ℕ → ℕ
low_at os i ms j = choose (slice_index ms (14 + j)) (slice_index ms (15 + j)) (slice_index ms (16 + j)) (slice_index os (i + j)) (slice_index os (i + j - 1))

abbrev pub high_at : List ℕ → ℕ → List ℕ → ℕ → ℕ
high_at os i ms j = choose (slice_index ms (14 + j)) (slice_index ms (15 + j)) (slice_index ms (16 + j)) (sign_of (slice_index os (i + j))) (slice_index os (i + j))

abbrev pub joined_at : List ℕ → List ℕ → ℕ → ℕ
joined_at low high j = slice_index low (16 + j) + 256 * slice_index high (16 + j)

abbrev pub added_at : List ℕ → ℕ → List ℕ → ℕ → ℕ
added_at os i ms j = low_at os i ms j + 256 * high_at os i ms j

-- what 192 octets add stands from 16 on, and 0 before
pub record Addends (ds : List ℕ) : Type 0 where
  pub none : (k : ℕ) → k < 16 → slice_index ds k ≡ 0
  pub number : (k : ℕ) → k < 208 → slice_index ds k < 65536
  pub long : length ds ≡ 208

-- ---- the pixels after each octet

-- the sum of the first n numbers of ds as signed ones, each plus 32,768
unfoldable pub raised_to : List ℕ → ℕ → ℕ
raised_to ds zero = 0
raised_to ds (suc n) = raised_to ds n + bit_xor (slice_index ds (16 + n)) 32768

-- from b to b' by the numbers of ds from 16 on, each added as a signed one, never below low or above high
pub record Walk (ds : List ℕ) (low high b b' : ℕ) : Type 0 where
  pub at : ℕ → ℕ
  pub first : at 0 ≡ b
  pub last : at 192 ≡ b'
  pub step : (j : ℕ) → j < 192 → pos (at (j + 1)) ≡ pos (at j) +ℤ signed 2 (slice_index ds (16 + j))
  pub inside : (j : ℕ) → j ≤ 192 → (low ≤ at j) × (at j ≤ high)
