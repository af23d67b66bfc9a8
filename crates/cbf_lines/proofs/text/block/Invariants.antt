use Rattle.std.proofs.Common.{Bool, false, ℕ, ◌≡◌, ◌+◌}
use Rattle.cbf_lines.specs.Text.{Run, Gives}
use Rattle.cbf_lines.proofs.text.block.Given as goal

abbrev pub invariant-loop-j : goal.invariant-loop-j
invariant-loop-j g l = goal.F-IsAlwaysCallable g l.test
    × ((t : ℕ → Bool) → Gives (goal.F-post g l.test) t → l.other ≡ false → Run t l.file l.fn.at (l.fn.at + l.j) (l.fn.at + l.j))
