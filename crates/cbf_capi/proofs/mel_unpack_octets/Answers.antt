-- `mel_unpack_octets`: any other element type or compression is 13 at 0.
use Rattle.std.proofs.Common.{sym, length}
use Rattle.cbf_pixels.specs.Numbers.{element, compressed}
use Rattle.cbf_capi.proofs.BoundaryLaws.{UnpackSays, unpack-fits, unpack-no-type, unpack-no-compression, unpack-known}
use Rattle.cbf_capi.proofs.mel_unpack_octets.Goals as goal

pub answer_of-requires : goal.answer_of-requires
answer_of-requires c =
    let a = c.args in
    rw c.unpack.ensures.answer (unpack-fits _ _ a.count a.octets.now (length a.pixels.now))

pub returns-in-Err-default : goal.returns-in-Err-default
unfolding UnpackSays
returns-in-Err-default c =
    let a = c.args in
    let e = rw c.in-Err-default.is-0 at c.try_from.ensures in
    let r = unpack-no-type (element a.element_type) (compressed a.compression) a.count a.octets.now a.pixels.now _
    (rw c.at.ensures at c.refused.ensures) (sym e) in
    record { answer = r.0; output = r.1 }

pub returns-in-Ok-Err : goal.returns-in-Ok-Err
unfolding UnpackSays
returns-in-Ok-Err c =
    let a = c.args in
    let r = unpack-no-compression (element a.element_type) (compressed a.compression) a.count a.octets.now a.pixels.now _
    (rw c.at-in-Ok-Err.ensures at c.refused-in-Ok-Err.ensures) _ (sym c.in-Ok-Err.ensures) (sym c.in-Ok-Err.ensures') in
    record { answer = r.0; output = r.1 }

pub returns-in-Ok-Ok : goal.returns-in-Ok-Ok
unfolding UnpackSays
returns-in-Ok-Ok c =
    let a = c.args in
    let r = unpack-known (element a.element_type) (compressed a.compression) a.count a.octets.now a.pixels.now
    c.in-Ok-Ok.kind c.in-Ok-Ok.by (sym c.in-Ok-Ok.ensures) (sym c.in-Ok-Ok.ensures') _ _ _
    c.answer_of.ensures c.unpack.ensures.answer c.unpack.ensures.output in
    record { answer = r.0; output = r.1 }
