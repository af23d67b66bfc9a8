-- The difference is whole, and the sum is the next pixel.
use Rattle.cbf_unpack.proofs.FillLaws.{stepped, held-sum, unpacks-whole, filled-one}
use Rattle.cbf_unpack.proofs.fill.fill_one.Goals as goal

pub read_difference-d-requires : goal.read_difference-d-requires
read_difference-d-requires c = unpacks-whole c.requires.0

pub overflow_add-pixel : goal.overflow_add-pixel
overflow_add-pixel c =
    let g = stepped c.requires.0 c.read_difference-d.ensures in
    (held-sum g.held_before g.held_value g.small).0

pub returns : goal.returns
returns c =
    let u = c.requires.0 in
    let d = c.read_difference-d.ensures in
    let g = stepped u d in
    filled-one c.args.k c.args.out.now u d (held-sum g.held_before g.held_value g.small).1
