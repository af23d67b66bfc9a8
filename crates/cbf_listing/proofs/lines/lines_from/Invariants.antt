-- `lines_from`: the lines of the sections before the cursor end at the place, and are in out where they are written.
use Prim.Native.Nat.{◌-◌}
use lib.ListN.{length}
use Rattle.cbf_listing.proofs.LinesLaws.{Listed}
use Rattle.cbf_listing.proofs.lines.lines_from.Given as goal

abbrev pub invariant-loop-next : goal.invariant-loop-next
invariant-loop-next l = Listed l.limit l.file l.initial.out l.writing l.cursor l.at l.out

abbrev pub decreases-loop-next : goal.decreases-loop-next
decreases-loop-next l = length l.file - l.cursor.at
