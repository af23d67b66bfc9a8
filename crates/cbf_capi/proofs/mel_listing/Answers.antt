-- `mel_listing`: what `list` answers fits the fields; the listing is what it writes.
use Rattle.std.proofs.Common.{ap, ◌∙◌, length, arith}
use Rattle.cbf_capi.specs.Boundary.{returned}
use Rattle.cbf_capi.proofs.BoundaryLaws.{list-fits}
use Rattle.cbf_capi.proofs.mel_listing.Goals as goal

pub answer_of-requires : goal.answer_of-requires
answer_of-requires c =
    let a = c.args in
    rw c.list.ensures.answer (list-fits _ a.file.now (length a.out.now) (omega arith))

pub returns : goal.returns
returns c = record { answer = c.answer_of.ensures ∙ ap returned c.list.ensures.answer; output = c.list.ensures.output }
