use Rattle.std.proofs.Common.{Bool, ℕ, ◌-◌, ◌≤◌}
use Rattle.cbf_lines.specs.Text.{Run, Gives}
use Rattle.cbf_lines.proofs.text.after_blocks.Given as goal

abbrev pub invariant-loop-i : goal.invariant-loop-i
invariant-loop-i g l = goal.F-IsAlwaysCallable g l.test × (l.fn.from ≤ l.i) × (l.i ≤ l.to)
    × ((t : ℕ → Bool) → Gives (goal.F-post g l.test) t → Run t l.file l.fn.from l.i l.i)

abbrev pub decreases-loop-i : goal.decreases-loop-i
decreases-loop-i g l = l.to - l.i
