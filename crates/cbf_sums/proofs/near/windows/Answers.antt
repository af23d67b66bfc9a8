use Rattle.std.proofs.Common.{get_or, refl}
use Rattle.cbf_sums.proofs.ModuloLaws.{windows-of}
use Rattle.cbf_sums.proofs.near.windows.Goals as goal

pub returns : goal.returns
returns c =
    let a = c.args in
    let p = c.requires in
    windows-of a.octets.now a.i a.n a.sums.now c.fours.new.sums c.fours.ensures p.5 p.0 (get_or a.octets.now a.i 0)
    c.add4.result c.add4-2.result refl c.add4.ensures c.add4-2.ensures
