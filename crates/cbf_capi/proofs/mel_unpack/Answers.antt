-- `mel_unpack`: what `unpack` answers fits the fields; the pixels is what it writes.
use Rattle.std.proofs.Common.{ap, ◌∙◌, length}
use Rattle.cbf_capi.specs.Boundary.{returned}
use Rattle.cbf_capi.proofs.BoundaryLaws.{frame-fits}
use Rattle.cbf_capi.proofs.mel_unpack.Goals as goal

pub answer_of-requires : goal.answer_of-requires
answer_of-requires c = let a = c.args in rw c.unpack.ensures.answer (frame-fits _ a.file.now _ (length a.pixels.now))

pub returns : goal.returns
returns c = record { answer = c.answer_of.ensures ∙ ap returned c.unpack.ensures.answer; output = c.unpack.ensures.output }
