use Rattle.std.proofs.Common.{ap, ◌∙◌, arith}
use Rattle.cbf_pixels.specs.Octets.{number}
use Rattle.cbf_octets.proofs.OctetsLaws.{number-8, length-chunk}
use Rattle.cbf_octets.proofs.octets.le8.Goals as goal

pub returns : goal.returns
returns c =
    let a = c.args in
    let l = length-chunk 8 a.i a.octets.now c.chunk.result c.chunk.ensures c.requires in
    (c.from_le_bytes.ensures ∙ number-8 c.chunk.result l ∙ ap number c.chunk.ensures, omega arith)
