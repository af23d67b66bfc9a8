-- The cursor after the section.
use Rattle.std.proofs.Common.{sym, arith, Ok}
use Rattle.cbf_reader.proofs.StepLaws.{section-over}
use Rattle.cbf_reader.proofs.step.section_step.Goals as goal

pub returns : goal.returns
returns c st k =
    let a = c.args in
    let p = c.requires in
    section-over a.limit a.file.now a.c a.next p.0 p.1 p.2 st k (omega arith) (Ok c.in_ok-read.read) (sym (c.in_ok-read.ensures st.block))
