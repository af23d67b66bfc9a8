-- The new file is made up to the chosen sections that are left; between two of them, the section that was found is not
-- past the next chosen one.
use Rattle.std.proofs.Common.{◌<◌, ◌-◌}
use Rattle.cbf_rewrite.specs.Rewrite.{FoundHere}
use Rattle.cbf_rewrite.proofs.RewriteLaws.{Rewriting}
use Rattle.cbf_rewrite.proofs.rewrite.spans_from.Given as goal

abbrev pub invariant-loop-choice : goal.invariant-loop-choice
invariant-loop-choice l =
    Rewriting l.limit l.file l.chosen l.frames l.fn.out l.writing l.current l.choice-index l.first l.from l.at l.out

abbrev pub invariant-loop-current : goal.invariant-loop-current
invariant-loop-current l = FoundHere l.limit l.file l.current × (l.current.before.count < l.choice.number)

abbrev pub decreases-loop-current : goal.decreases-loop-current
decreases-loop-current l = l.choice.number - l.current.before.count
