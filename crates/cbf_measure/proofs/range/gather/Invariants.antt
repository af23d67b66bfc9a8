-- `gather`: j pixels are words.
use Rattle.cbf_measure.specs.Range.{Gathered}
use Rattle.cbf_measure.proofs.range.gather.Given as goal

abbrev pub invariant-loop-j : goal.invariant-loop-j
invariant-loop-j l = Gathered l.pixels 0 l.j l.below l.words l.all
