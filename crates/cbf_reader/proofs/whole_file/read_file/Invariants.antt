-- The section that is requested is among those before the cursor, or not yet found.
use Rattle.std.proofs.Common.{◌-◌, length}
use Rattle.cbf_reader.proofs.WholeFileLaws.{Surveyed}
use Rattle.cbf_reader.proofs.whole_file.read_file.Given as goal

abbrev pub invariant-loop-next : goal.invariant-loop-next
invariant-loop-next l = Surveyed l.limit l.file l.number l.cursor l.requested

abbrev pub decreases-loop-next : goal.decreases-loop-next
decreases-loop-next l = length l.file - l.cursor.at
