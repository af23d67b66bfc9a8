use Rattle.std.proofs.Common.{◌≡◌, ◌-◌, ◌%◌, ◌≤◌}
use Rattle.cbf_letters.specs.Octets.{LettersOnly}
use Rattle.cbf_letters.proofs.letters.after_letters.Given as goal

-- block after block is of letters
abbrev pub invariant-loop-i : goal.invariant-loop-i
invariant-loop-i l = (l.from ≤ l.i) × (l.i ≤ l.to) × LettersOnly l.file l.from l.i × ((l.i - l.from) % 4 ≡ 0)

abbrev pub decreases-loop-i : goal.decreases-loop-i
decreases-loop-i l = l.to - l.i
