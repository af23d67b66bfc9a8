-- `escapes`: while nothing is found the first j octets are plain.
use Rattle.std.proofs.Common.{◌≡◌, ◌-◌, ◌≤◌, false}
use Rattle.cbf_octets.specs.Plain.{Plain}
use Rattle.cbf_octets.proofs.plain.escapes.Given as goal

abbrev pub invariant-loop-j : goal.invariant-loop-j
invariant-loop-j l = (l.j ≤ 32) × (l.found ≡ false → Plain l.octets l.i l.j)

abbrev pub decreases-loop-j : goal.decreases-loop-j
decreases-loop-j l = 32 - l.j
