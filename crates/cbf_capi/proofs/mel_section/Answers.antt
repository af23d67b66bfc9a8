-- `mel_section`: the fields of the section, or the refusal.
use Rattle.std.proofs.Common.{Ok, Err, refl, arith}
use Rattle.cbf_capi.proofs.BoundaryLaws.{SectionSays, refused-fits, refused_says, narrow-section, section-says}
use Rattle.cbf_capi.proofs.mel_section.Goals as goal

pub section_of-requires : goal.section_of-requires
section_of-requires c =
    let a = c.args in
    let e = c.in-Ok.ensures in
    narrow-section _ a.file.now _ (Ok c.in-Ok.found) e.answer e.name c.in-Ok.found refl

pub no_section-requires : goal.no_section-requires
no_section-requires c =
    let a = c.args in
    let e = c.in-Err.ensures in
    let fits = refused-fits _ a.file.now _ (Err c.in-Err.refusal) e.answer e.name c.in-Err.refusal refl in
    grind (arith, fits)

pub returns-in-Ok : goal.returns-in-Ok
unfolding SectionSays
returns-in-Ok c =
    let a = c.args in
    let e = c.in-Ok.ensures in
    let r = section-says _ a.file.now _ (Ok c.in-Ok.found) e.answer e.name c.in-Ok.found refl c.section_of.ensures in
    record { answer = r.0; name = r.1.0; inside = r.1.1 }

pub returns-in-Err : goal.returns-in-Err
unfolding SectionSays
returns-in-Err c =
    let a = c.args in
    let e = c.in-Err.ensures in
    let t = c.in-Err.refusal in
    let r = refused_says _ a.file.now _ (Err t) e.answer e.name t refl c.no_section.ensures in
    record { answer = r.0; name = r.1.0; inside = r.1.1 }
