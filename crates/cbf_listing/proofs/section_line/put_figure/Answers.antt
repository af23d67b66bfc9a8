-- `put_figure`: the number, then the space.
use mathlib.Core.List.{[], ◌∷◌}
use Rattle.cbf_format.specs.Listing.{printed}
use Rattle.cbf_write.proofs.PutLaws.{put_both}
use Rattle.cbf_listing.proofs.section_line.put_figure.Goals as goal

pub returns-clause-out_after : goal.returns-clause-out_after
returns-clause-out_after c =
    let n = c.put_number-end.ensures in
    let t = c.put_text.ensures in
    (put_both c.args.out.now c.args.at (printed c.args.n) (32 ∷ []) (n.value, n.out_after) (t.value, t.out_after)).1
