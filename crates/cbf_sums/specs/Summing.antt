-- Arrays that near.rt and mixed.rt fill from 16 on, and sums modulo a number m that stand in them: place 16 belongs
-- to the number at i of a list, place 17 to the next one, and so on. Nothing here is part of what the public calls
-- promise.
use Rattle.std.specs.Prelude.{◌≡◌, ℕ, zero, suc, ◌+◌, ◌-◌, ◌%◌, ◌<◌, List, length, slice_index}

-- of an array of size numbers: from 16 on stand the n that f gives, and before them what stood there
pub record Written (f : ℕ → ℕ) (n size : ℕ) (before xs : List ℕ) : Type 0 where
  pub is : (j : ℕ) → j < n → slice_index xs (16 + j) ≡ f j
  pub same : (k : ℕ) → k < 16 → slice_index xs k ≡ slice_index before k
  pub long : length xs ≡ size

-- the sum of the octet j behind i and the three before it, modulo 256
abbrev pub four_at : List ℕ → ℕ → ℕ → ℕ
four_at os i j = (slice_index os (i + j) + slice_index os (i + j - 1) + slice_index os (i + j - 2) + slice_index os (i + j - 3)) % 256

-- the sum of a number and of that back before it, modulo m
abbrev pub back_at : ℕ → List ℕ → ℕ → ℕ → ℕ
back_at m xs back j = (slice_index xs (16 + j) + slice_index xs (16 + j - back)) % m

-- the sum of the n numbers from i on
unfoldable pub total : List ℕ → ℕ → ℕ → ℕ
total os i zero = 0
total os i (suc n) = total os i n + slice_index os (i + n)

-- s is the sum, modulo m, of the numbers behind place a up to place b; those before i count as none
pub record Window (m : ℕ) (os : List ℕ) (i a b s : ℕ) : Type 0 where
  pub sum : (s + total os i (a - 15)) % m ≡ total os i (b - 15) % m

-- up to the place of the n-th number stand the sums of the w numbers up to each place
pub record Windows (m w : ℕ) (os : List ℕ) (i n : ℕ) (sums : List ℕ) : Type 0 where
  pub window : (k : ℕ) → k < 16 + n → Window m os i (k - w) k (slice_index sums k)

-- up to the place of the n-th number stand c and the sums with it of all numbers up to each place, modulo m
pub record Levels (m : ℕ) (os : List ℕ) (i c n : ℕ) (levels : List ℕ) : Type 0 where
  pub level : (k : ℕ) → k < 16 + n → slice_index levels k ≡ (c + total os i (k - 15)) % m
