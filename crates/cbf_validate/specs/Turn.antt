-- A turn of the first pass of unpacking.
use Rattle.std.specs.Prelude.{ℕ, ◌<◌, ◌≤◌, List}
use Rattle.cbf_sums.specs.Passes.{Passed}

-- a turn of the first pass: some of the pixels that are left
pub record Turned (top : ℕ) (os : List ℕ) (biased i left n biased' j : ℕ) : Type 0 where
  pub some : 0 < n
  pub few : n ≤ left
  pub passed : Passed top os biased i n biased' j
