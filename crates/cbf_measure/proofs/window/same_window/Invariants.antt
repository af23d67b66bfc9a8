-- `same_window`: all joins what is unlike last in the pixels so far.
use Rattle.std.proofs.Common.{ℕ, ◌^◌, ◌<◌, ◌≤◌, slice_index_or, pos, w64, of_z}
use lib.Bits.{bit_xor}
use lib.Signed.{mag}
use Rattle.cbf_measure.proofs.window.same_window.Given as goal

abbrev pub invariant-loop-j : goal.invariant-loop-j
invariant-loop-j l =
    ((i : ℕ) → i < l.j → mag (slice_index_or l.block i (pos 0)) < 2 ^ 63)
    × ((i : ℕ) → i < l.j → bit_xor (of_z w64 (slice_index_or l.block i (pos 0))) (of_z w64 l.last) ≤ l.all)
