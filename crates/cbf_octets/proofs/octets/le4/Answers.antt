use Rattle.std.proofs.Common.{ap, ◌∙◌, arith}
use Rattle.cbf_pixels.specs.Octets.{number}
use Rattle.cbf_octets.proofs.OctetsLaws.{number-4, length-chunk}
use Rattle.cbf_octets.proofs.octets.le4.Goals as goal

pub returns : goal.returns
returns c =
    let a = c.args in
    let l = length-chunk 4 a.i a.octets.now c.chunk.result c.chunk.ensures c.requires in
    (c.from.ensures ∙ c.from_le_bytes.ensures ∙ number-4 c.chunk.result l ∙ ap number c.chunk.ensures, omega arith)
