-- `put_figures`: the numbers, one after another.
use mathlib.Core.List.{◌++◌}
use Rattle.cbf_listing.specs.SectionLine.{figure}
use Rattle.cbf_write.proofs.PutLaws.{put_both}
use Rattle.cbf_listing.proofs.section_line.put_figures.Goals as goal

pub returns-clause-out_after : goal.returns-clause-out_after
returns-clause-out_after c =
    let a = c.args in
    let p = c.put_figure-after_number in
    let q = c.put_figure-after_position in
    let r = c.put_figure-after_size in
    let s = c.put_figure in
    (put_both a.out.now a.at (figure a.number) (figure a.position ++ (figure a.size ++ figure a.elements))
    (p.ensures.value, p.ensures.out_after)
    (put_both p.new.out p.result (figure a.position) (figure a.size ++ figure a.elements) (q.ensures.value, q.ensures.out_after)
    (put_both q.new.out q.result (figure a.size) (figure a.elements) (r.ensures.value, r.ensures.out_after)
    (s.ensures.value, s.ensures.out_after)))).1
