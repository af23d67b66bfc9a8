-- The invariant: the whole gives what the lines from `next` on give.
use Rattle.std.proofs.Common.{◌-◌, length, eqb}
use Rattle.cbf_headers.proofs.HeadersLaws.{Passed}
use Rattle.cbf_headers.proofs.headers.header_end.Given as goal

abbrev pub invariant-loop-next : goal.invariant-loop-next
invariant-loop-next l = Passed l.file l.at l.limit l.next (eqb l.next l.at)

abbrev pub decreases-loop-next : goal.decreases-loop-next
decreases-loop-next l = length l.file - l.next
