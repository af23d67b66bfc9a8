use Rattle.cbf_unpack.proofs.UncompressedLaws.{Front}
use Rattle.cbf_unpack.proofs.uncompressed.fill.Given as goal

-- k of the pixels are written
abbrev pub invariant-loop-k : goal.invariant-loop-k
invariant-loop-k l = Front l.signed l.width l.k l.octets l.initial.out l.out
