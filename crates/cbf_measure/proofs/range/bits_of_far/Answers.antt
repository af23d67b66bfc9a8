use Rattle.std.proofs.Common.{ap, ◌∙◌, to_z-of_z, w64}
use Rattle.cbf_pixels.specs.Octets.{bits}
use Rattle.cbf_measure.proofs.RangeLaws.{bits-far}
use Rattle.cbf_measure.proofs.range.bits_of_far.Goals as goal

pub returns : goal.returns
returns c = c.cast_unsigned.ensures ∙ bits-far _ ∙ ap (bits 8) (to_z-of_z {w = w64} c.ranges.d)
