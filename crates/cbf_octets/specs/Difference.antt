-- One difference, as the code reads it. Nothing here is part of what the public calls promise.
use Rattle.std.specs.Prelude.{cond, ℕ, ◌+◌, ◌*◌, ◌^◌, ◌<◌, ◌≤◌, ◌≡◌, List, leb, ltb, length, drop, ℤ, pos, negsuc}
use Rattle.cbf_pixels.specs.Pixels.{run_out, got, read_by, widths}

-- half of the numbers of a width, which is a power of two: n is a number of that width
pub record Halved (half n : ℕ) : Type 0 where
  pub exponent : ℕ
  pub power : half ≡ 2 ^ exponent
  pub small : exponent ≤ 31
  pub fits : n < 2 * half

-- a difference of which no type has a pixel either way is held as 2^36: sums of it stay far outside, and never wrap
unfoldable pub clamped : ℤ → ℤ
clamped (pos n) = cond (leb n (2 ^ 33)) (pos n) (pos (2 ^ 36))
clamped (negsuc n) = cond (ltb n (2 ^ 33)) (negsuc n) (pos (2 ^ 36))

-- a whole difference stands at i
abbrev pub Whole : List ℕ → ℕ → Type 0
Whole os i = read_by widths (drop i os) ≡ run_out → ⊥

-- the difference at i, clamped, is value, and the next one starts at j
pub record Took (os : List ℕ) (i : ℕ) (value : ℤ) (j : ℕ) : Type 0 where
  pub difference : ℤ
  pub read : read_by widths (drop i os) ≡ got difference (drop j os)
  pub near : value ≡ clamped difference
  pub ahead : i < j
  pub reach : j ≤ i + 15
  pub inside : j ≤ length os
