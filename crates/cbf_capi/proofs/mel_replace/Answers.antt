-- `mel_replace`: what `replace` answers fits the fields; the new file is what it writes.
use Rattle.std.proofs.Common.{ap, ◌∙◌, length}
use Rattle.cbf_capi.specs.Boundary.{returned}
use Rattle.cbf_capi.proofs.BoundaryLaws.{replace-fits}
use Rattle.cbf_capi.proofs.mel_replace.Goals as goal

pub answer_of-requires : goal.answer_of-requires
answer_of-requires c =
    let a = c.args in
    rw c.replace.ensures.answer (replace-fits _ a.file.now _ a.frame.now (length a.out.now))

pub returns : goal.returns
returns c = record { answer = c.answer_of.ensures ∙ ap returned c.replace.ensures.answer; output = c.replace.ensures.output }
