-- A pixel beside the ends of its type.
use Rattle.std.specs.Prelude.{ℕ, ◌+◌, ◌*◌, ◌<◌, ◌≤◌}
use Rattle.cbf_sums.specs.Passes.{biased_least}

-- a pixel from which as many pixels as two halves are in the type, and biased is one of them
pub record Base (top biased half base : ℕ) : Type 0 where
  pub least : biased_least ≤ base
  pub greatest : base + 2 * half ≤ top + 1
  pub low : base ≤ biased
  pub high : biased < base + 2 * half
