-- Lines without a section lead up to the cursor, which stands in the file.
use Rattle.std.proofs.Common.{◌-◌, length}
use Rattle.cbf_reader.specs.Step.{Ready}
use Rattle.cbf_reader.proofs.WalkLaws.{Walked}
use Rattle.cbf_reader.proofs.walk.section_from.Given as goal

abbrev pub invariant-loop-cursor : goal.invariant-loop-cursor
invariant-loop-cursor l = record { ready : Ready l.file l.cursor; walked : Walked l.limit l.file l.fn.c l.cursor }

abbrev pub decreases-loop-cursor : goal.decreases-loop-cursor
decreases-loop-cursor l = length l.file - l.cursor.at
