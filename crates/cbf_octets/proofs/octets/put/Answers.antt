use Rattle.std.proofs.Common.{◌+◌, ◌-◌, take, ap, ◌∙◌, arith}
use Rattle.cbf_octets.proofs.OctetsLaws.{octets-low, copied}
use Rattle.cbf_octets.proofs.octets.put.Goals as goal

pub returns : goal.returns
returns g c =
    let a = c.args in
    let k = g.row.N in
    copied a.out.now a.at k (a.at + k - a.at) a.n c.copy_from_slice.new.self c.requires.1 (omega arith)
    (c.copy_from_slice.ensures.after ∙ ap (take k) c.to_le_bytes.ensures ∙ octets-low k a.n c.requires.0)
