use Prim.Native.Nat.{◌-◌}
use Rattle.cbf_letters.specs.Octets.{Decodes}
use Rattle.cbf_letters.proofs.octets.decode.Given as goal

-- the octets of the text from at up to i are written from `from` up to k
abbrev pub invariant-loop-out : goal.invariant-loop-out
invariant-loop-out l = Decodes l.file l.at l.to l.initial.out l.from l.out l.i l.k

abbrev pub decreases-loop-out : goal.decreases-loop-out
decreases-loop-out l = l.to - l.i
