use Rattle.std.proofs.Common.{◌-◌, take}
use Rattle.cbf_pixels.specs.Pixels.{unpack_byte_offset}
use Rattle.cbf_letters.specs.Octets.{text_octets}
use Rattle.cbf_text.proofs.ByteOffsetTextLaws.{Passing}
use Rattle.cbf_text.proofs.byte_offset_text.pass.Given as goal

-- k of the pixels are passed, and the window brings the octets of the others
abbrev pub invariant-loop-k : goal.invariant-loop-k
invariant-loop-k g l =
    Passing l.kind l.file l.fn.from l.to l.count g.S.Step.writing (unpack_byte_offset l.kind l.count (take l.fn.size (text_octets l.file l.fn.from l.to)))
    l.initial.out l.out l.w l.pixel l.k

abbrev pub decreases-loop-k : goal.decreases-loop-k
decreases-loop-k g l = l.count - l.k
