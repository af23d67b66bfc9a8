-- `spread`: all is at least the place of each pixel so far.
use Rattle.std.proofs.Common.{ℕ, ◌+◌, ◌%◌, ◌^◌, ◌<◌, ◌≤◌, slice_index_or, pos}
use lib.Signed.{mag}
use Rattle.cbf_pixels.specs.Octets.{bits}
use Rattle.cbf_measure.proofs.range.spread.Given as goal

abbrev pub invariant-loop-z : goal.invariant-loop-z
invariant-loop-z l = (j : ℕ) → j < l.z-index → ((bits 8 (slice_index_or l.pixels j (pos 0)) + l.below) % 2 ^ 64 ≤ l.all)
    × (mag (slice_index_or l.pixels j (pos 0)) < 2 ^ 63)
