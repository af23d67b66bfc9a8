-- `mel_octets`: where the octets are and how many, or the refusal.
use Rattle.std.proofs.Common.{Ok, Err}
use Rattle.cbf_format.specs.SectionCalls.{place_of}
use Rattle.cbf_capi.proofs.BoundaryLaws.{place-fits, octets-say}
use Rattle.cbf_capi.proofs.mel_octets.Goals as goal

pub overflow_cast-result : goal.overflow_cast-result
overflow_cast-result c =
    record { fits = place-fits _ c.args.file.now _ {x = place_of (Ok c.in-Ok.octets)} c.in-Ok.ensures.answer }

pub overflow_cast-result-in-Err : goal.overflow_cast-result-in-Err
overflow_cast-result-in-Err c =
    record { fits = place-fits _ c.args.file.now _ {x = place_of (Err c.in-Err.refusal)} c.in-Err.ensures.answer }

pub returns-in-Ok : goal.returns-in-Ok
returns-in-Ok c =
    record { answer = octets-say _ c.args.file.now _ {x = place_of (Ok c.in-Ok.octets)} c.in-Ok.ensures.answer }

pub returns-in-Err : goal.returns-in-Err
returns-in-Err c =
    record { answer = octets-say _ c.args.file.now _ {x = place_of (Err c.in-Err.refusal)} c.in-Err.ensures.answer }
