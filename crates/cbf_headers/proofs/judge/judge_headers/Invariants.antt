-- The invariant: what the headers before `at` gave, and what is left of them.
use Rattle.std.proofs.Common.{◌-◌}
use Rattle.cbf_headers.proofs.JudgeLaws.{Judging}
use Rattle.cbf_headers.proofs.judge.judge_headers.Given as goal

abbrev pub invariant-loop-at : goal.invariant-loop-at
invariant-loop-at l = Judging l.file l.from l.empty l.at l.values

abbrev pub decreases-loop-at : goal.decreases-loop-at
decreases-loop-at l = l.empty - l.at
