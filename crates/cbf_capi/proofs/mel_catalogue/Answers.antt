-- `mel_catalogue`: what `catalogue` answers fits the fields; the catalogue is what it writes.
use Rattle.std.proofs.Common.{ap, ◌∙◌, length}
use Rattle.cbf_capi.specs.Boundary.{returned}
use Rattle.cbf_capi.proofs.BoundaryLaws.{catalogue-fits}
use Rattle.cbf_capi.proofs.mel_catalogue.Goals as goal

pub answer_of-requires : goal.answer_of-requires
answer_of-requires c = let a = c.args in rw c.catalogue.ensures.answer (catalogue-fits _ a.file.now (length a.out.now))

pub returns : goal.returns
returns c = record { answer = c.answer_of.ensures ∙ ap returned c.catalogue.ensures.answer; output = c.catalogue.ensures.output }
