use Rattle.std.proofs.Common.{◌-◌, ◌≤◌, take}
use Rattle.cbf_letters.specs.Octets.{text_octets}
use Rattle.cbf_text.proofs.TextWindowLaws.{Loaded}
use Rattle.cbf_text.proofs.uncompressed_text.unpack_uncompressed.Given as goal

-- k pixels are written, and the window brings the octets of the others
abbrev pub invariant-loop-k : goal.invariant-loop-k
invariant-loop-k l =
    (l.k ≤ l.count) × Loaded l.kind l.width l.file l.fn.from l.to (take l.fn.size (text_octets l.file l.fn.from l.to)) l.initial.out l.k l.w l.out

abbrev pub decreases-loop-k : goal.decreases-loop-k
decreases-loop-k l = l.count - l.k
