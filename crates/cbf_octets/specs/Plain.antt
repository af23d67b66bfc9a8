-- Octets that are no escapes. Nothing here is part of what the public calls promise.
use Rattle.std.specs.Prelude.{ℕ, ◌+◌, ◌%◌, ◌<◌, ◌≤◌, ◌≡◌, List, length, get_or}

-- none of the n octets from i is the escape 80, so that each is a difference
abbrev pub Plain : List ℕ → ℕ → ℕ → Type 0
Plain os i n = (j : ℕ) → j < n → get_or os (i + j) 0 ≡ 128 → ⊥

-- a run of plain octets, in blocks of 32
pub record PlainRun (os : List ℕ) (i limit n : ℕ) : Type 0 where
  pub plain : Plain os i n
  pub few : n ≤ limit
  pub short : n ≤ 4096
  pub inside : i + n ≤ length os
  pub blocks : n % 32 ≡ 0
