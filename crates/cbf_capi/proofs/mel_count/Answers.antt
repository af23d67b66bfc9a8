-- `mel_count`: the number of sections, or the refusal, which fit the fields.
use Rattle.std.proofs.Common.{ap, ◌∙◌}
use Rattle.cbf_capi.specs.Boundary.{returned}
use Rattle.cbf_capi.proofs.BoundaryLaws.{count_fits}
use Rattle.cbf_capi.proofs.mel_count.Goals as goal

pub answer_of-requires : goal.answer_of-requires
answer_of-requires c = rw c.read.ensures.answer (count_fits _ c.args.file.now)

pub returns : goal.returns
returns c = record { answer = c.answer_of.ensures ∙ ap returned c.read.ensures.answer }
