-- How many octets pixels take. Nothing here is part of what the public calls promise.
use Rattle.std.specs.Prelude.{◌≡◌, ℕ, zero, suc, ◌+◌, true, cond, List, length, take, drop, ℤ, pos, ◌-ℤ◌, nat_lt, slice_index_or, unsigned_abs}
use Rattle.cbf_pixels.specs.Pixels.{within, all_within, pack_from, pack_byte_offset, least, greatest}
use Rattle.cbf_pixels.specs.declared.ElementType.{ElementType}
use Rattle.std.specs.Prelude.{Option, None, Some}
use Rattle.cbf_pixels.specs.Pixels as P

-- the n pixels from k on
abbrev pub part : List ℤ → ℕ → ℕ → List ℤ
part ps k n = take n (drop k ps)

-- the octets that pixels after z take, where all of them are from lo to hi
unfoldable pub size_within : ℤ → ℤ → ℤ → List ℤ → Option ℕ
size_within lo hi z ps = cond (all_within lo hi ps) (Some (length (pack_from z ps))) None

-- the octets of the n pixels after i
abbrev pub steps_size : List ℤ → ℕ → ℕ → ℕ
steps_size ps i n = length (pack_from (slice_index_or ps i (pos 0)) (take n (drop (i + 1) ps)))

-- 0 where a width with half numbers on each side of 0 holds the difference d, and 1 where not
unfoldable pub over : ℤ → ℕ → ℕ
over d half = cond (nat_lt (unsigned_abs d) half) 0 1

-- how many of the n differences from the first pixel on take eight octets
unfoldable pub far_steps : List ℤ → ℕ → ℕ
far_steps ps zero = 0
far_steps ps (suc n) = far_steps ps n + over (slice_index_or ps (n + 1) (pos 0) -ℤ slice_index_or ps n (pos 0)) 2147483648

-- lo and hi are the bounds of a type, and z is from lo to hi
pub record Typed (lo hi z : ℤ) : Type 0 where
  pub type : ElementType
  pub least : lo ≡ P.least type
  pub greatest : hi ≡ P.greatest type
  pub inside : within lo hi z ≡ true

-- what the first pass of packing finds: the octets of pixels of the type
unfoldable pub size_of : ElementType → List ℤ → Option ℕ
size_of t ps = cond (all_within (P.least t) (P.greatest t) ps) (Some (length (pack_byte_offset ps))) None
