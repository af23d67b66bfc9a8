-- The loop has written the first j pixels.
use Rattle.std.proofs.Common.{◌≡◌, ℕ, ◌+◌, ◌<◌, ◌≤◌, List, length, get_or}
use Rattle.cbf_sums.specs.Summing.{Windows, Levels}
use Rattle.cbf_sums.proofs.mixed.levels.Given as goal

abbrev pub invariant-loop-j : goal.invariant-loop-j
invariant-loop-j l =
    (length l.pixels ≡ 208)
    × ((ds : List ℕ) (c : ℕ) → Windows 65536 4 ds 16 192 l.fours → Levels 65536 ds 16 c 0 l.initial.pixels → Levels 65536 ds 16 c l.j l.pixels)
    × ((k : ℕ) → k < l.j → get_or l.pixels (16 + k) 0 ≤ l.all)
