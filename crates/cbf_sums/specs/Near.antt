-- Pixels that stay near each other.
use Rattle.std.specs.Prelude.{ℕ, ◌+◌, ◌≤◌, List}
use Rattle.cbf_sums.specs.Passes.{biased_least, Passes}

-- n plain octets from i on lead from the pixel c above base to that r above it, and stay less than 128 above base
unfoldable pub Stays : List ℕ → ℕ → ℕ → ℕ → ℕ → Type 0
Stays os i n c r = (top base : ℕ) → biased_least ≤ base → base + 127 ≤ top → Passes top os (base + c) i n (base + r) (i + n)
