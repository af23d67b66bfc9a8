-- `put_heading`: the version, and the count behind it.
use Rattle.cbf_pixels.specs.Octets.{octets}
use Rattle.cbf_catalogue.proofs.WriteCatalogueLaws.{heading-put}
use Rattle.cbf_catalogue.proofs.write_catalogue.put_heading.Goals as goal

pub returns : goal.returns
unfolding octets
returns c =
    let v = c.put_text-after_version.ensures in
    let n = c.put_little.ensures in
    heading-put c.args.out.now c.args.count (v.value, v.out_after) (n.value, n.out_after)
