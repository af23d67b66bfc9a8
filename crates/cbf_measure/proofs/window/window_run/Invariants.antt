-- `window_run`: the loop has passed n pixels of the window.
use Rattle.std.proofs.Common.{◌-◌, length}
use Rattle.cbf_measure.specs.Window.{WindowRun}
use Rattle.cbf_measure.proofs.window.window_run.Given as goal

abbrev pub invariant-loop-n : goal.invariant-loop-n
invariant-loop-n l = WindowRun l.pixels 0 l.last l.n

abbrev pub decreases-loop-n : goal.decreases-loop-n
decreases-loop-n l = length l.pixels - l.n
