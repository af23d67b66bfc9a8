-- Many pixels held against the ends of their type at once. Nothing here is part of what the public calls promise.
use Rattle.std.specs.Prelude.{◌≡◌, ℕ, ◌+◌, ◌%◌, ◌^◌, ◌<◌, ◌≤◌, Bool, true, false, List, length, ℤ, pos, negsuc, ◌-ℤ◌, slice_index_or}
use Rattle.std.proofs.Math.IntN.{sub_ℕ}
use Rattle.std.specs.Int.Signed.{mag}
use Rattle.cbf_pixels.specs.Octets.{bits}
use Rattle.cbf_pixels.specs.Pixels.{within}

-- the least number of a range that ends at limit, with a sign or without
abbrev pub lowest : Bool → ℕ → ℤ
lowest true limit = negsuc limit
lowest false limit = pos 0

-- each of the n pixels from k on is from lo to hi
abbrev pub EachWithin : List ℤ → ℕ → ℕ → ℤ → ℤ → Type 0
EachWithin ps k n lo hi = (j : ℕ) → j < n → within lo hi (slice_index_or ps (k + j) (pos 0)) ≡ true

-- by how much a range is moved up so that it starts at 0
abbrev pub raised_by : Bool → ℕ → ℕ
raised_by true limit = limit + 1
raised_by false limit = 0

-- the n pixels from k on, raised by below modulo 2^64: each is at most all, and words are the low 32 bits of each,
-- less 2^31
pub record Gathered (ps : List ℤ) (k n below : ℕ) (words : List ℤ) (all : ℕ) : Type 0 where
  pub most : (j : ℕ) → j < n → (bits 8 (slice_index_or ps (k + j) (pos 0)) + below) % 2 ^ 64 ≤ all
  pub fits : (j : ℕ) → j < n → mag (slice_index_or ps (k + j) (pos 0)) < 2 ^ 63
  pub word : (j : ℕ) → j < n → slice_index_or words j (pos 0) ≡ sub_ℕ ((bits 8 (slice_index_or ps (k + j) (pos 0)) + below) % 2 ^ 64 % 2 ^ 32) 2147483648
  pub long : length words ≡ 129

-- the n differences from pixel k on are those of the words
abbrev pub SameSteps : List ℤ → ℕ → ℕ → List ℤ → Type 0
SameSteps ps k n words = (j : ℕ) → j < n → slice_index_or words (j + 1) (pos 0) -ℤ slice_index_or words j (pos 0) ≡ slice_index_or ps (k + j + 1) (pos 0) -ℤ slice_index_or ps (k + j) (pos 0)
