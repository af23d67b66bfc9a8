-- `mel_pack`: an element type that is known is packed as, any other is 14 at 0.
use Rattle.std.proofs.Common.{sym, length}
use Rattle.cbf_pixels.specs.Numbers.{element}
use Rattle.cbf_capi.proofs.BoundaryLaws.{PackSays, pack-fits, pack-unknown, pack-known}
use Rattle.cbf_capi.proofs.mel_pack.Goals as goal

pub returns-in-Err : goal.returns-in-Err
unfolding PackSays
returns-in-Err c =
    let a = c.args in
    let r = pack-unknown (element a.element_type) a.pixels.now a.out.now _ (rw c.at.ensures at c.refused.ensures) (sym c.in-Err.ensures) in
    record { answer = r.0; output = r.1 }

pub answer_of-requires : goal.answer_of-requires
answer_of-requires c = rw c.pack.ensures.answer (pack-fits _ c.args.pixels.now (length c.args.out.now))

pub returns-in-Ok : goal.returns-in-Ok
unfolding PackSays
returns-in-Ok c =
    let a = c.args in
    let r = pack-known (element a.element_type) a.pixels.now a.out.now c.in-Ok.kind (sym c.in-Ok.ensures) _ _ _
    c.answer_of.ensures c.pack.ensures.answer c.pack.ensures.output in
    record { answer = r.0; output = r.1 }
