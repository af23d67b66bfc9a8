-- Pixels of one window of 128 numbers. Nothing here is part of what the public calls promise.
use Rattle.std.specs.Prelude.{◌≡◌, ℕ, ◌+◌, ◌%◌, ◌<◌, ◌≤◌, List, length, ℤ, pos, slice_index_or}
use Rattle.std.specs.Int.Signed.{shr_z}

-- two numbers of the same 128, from a multiple of 128 on: their difference takes one octet, and no type's range ends
-- between them
unfoldable pub SameWindow : ℤ → ℤ → Type 0
SameWindow y z = shr_z y 128 ≡ shr_z z 128

-- n pixels from k on, in blocks of 32, each in the window of last
pub record WindowRun (ps : List ℤ) (k : ℕ) (last : ℤ) (n : ℕ) : Type 0 where
  pub same : (j : ℕ) → j < n → SameWindow (slice_index_or ps (k + j) (pos 0)) last
  pub inside : k + n ≤ length ps
  pub blocks : n % 32 ≡ 0
