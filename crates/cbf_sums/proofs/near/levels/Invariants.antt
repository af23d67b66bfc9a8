-- The loop has written the first j pixels.
use Rattle.std.proofs.Common.{◌≡◌, ℕ, ◌+◌, ◌<◌, ◌≤◌, List, length, get_or}
use Rattle.cbf_sums.specs.Summing.{Windows, Levels}
use Rattle.cbf_sums.proofs.near.levels.Given as goal

abbrev pub invariant-loop-j : goal.invariant-loop-j
invariant-loop-j l =
    (length l.pixels ≡ 1040)
    × ((os : List ℕ) (i c : ℕ) → Windows 256 4 os i l.n l.sums → Levels 256 os i c 0 l.initial.pixels → Levels 256 os i c l.j l.pixels)
    × ((k : ℕ) → k < l.j → get_or l.pixels (16 + k) 0 ≤ l.all)
