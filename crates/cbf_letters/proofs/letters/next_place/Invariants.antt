use Rattle.std.proofs.Common.{◌≡◌}
use Rattle.std.proofs.Math.Seq.{slice}
use Rattle.cbf_letters.specs.Letters.{sixes}
use Rattle.cbf_letters.proofs.letters.next_place.Given as goal

abbrev pub invariant-loop-i : goal.invariant-loop-i
invariant-loop-i l = sixes (slice l.at l.to l.file) ≡ sixes (slice l.i l.to l.file)
