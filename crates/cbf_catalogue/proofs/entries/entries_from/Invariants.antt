-- `entries_from`: the first long name among the sections before the cursor is known, and their entries are in out where
-- they are written.
use Rattle.std.proofs.Common.{◌-◌, length}
use Rattle.cbf_catalogue.proofs.EntriesLaws.{Entered}
use Rattle.cbf_catalogue.proofs.entries.entries_from.Given as goal

abbrev pub invariant-loop-next : goal.invariant-loop-next
invariant-loop-next l = Entered l.limit l.file l.initial.out l.writing l.cursor l.found l.out

abbrev pub decreases-loop-next : goal.decreases-loop-next
decreases-loop-next l = length l.file - l.cursor.at
