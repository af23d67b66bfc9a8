-- `put_four`: each call writes four octets after those before.
use mathlib.Core.List.{◌++◌}
use Rattle.cbf_pixels.specs.Octets.{octets}
use Rattle.cbf_pixels.proofs.Numbers.{length-octets}
use Rattle.cbf_catalogue.proofs.EntryLaws.{both-written}
use Rattle.cbf_catalogue.proofs.entry.put_four.Goals as goal

pub returns-clause-out_after : goal.returns-clause-out_after
returns-clause-out_after c =
    let s = c.args in
    let p = c.put_little-after_a in
    let q = c.put_little-after_b in
    let r = c.put_little-after_c in
    let t = c.put_little in
    (both-written s.out.now s.at (octets 4 s.a) (octets 4 s.b ++ (octets 4 s.c ++ octets 4 s.d)) 12 (length-octets 4 s.a)
    (p.ensures.value, p.ensures.out_after)
    (both-written p.new.out p.result (octets 4 s.b) (octets 4 s.c ++ octets 4 s.d) 8 (length-octets 4 s.b)
    (q.ensures.value, q.ensures.out_after)
    (both-written q.new.out q.result (octets 4 s.c) (octets 4 s.d) 4 (length-octets 4 s.c) (r.ensures.value, r.ensures.out_after)
    (t.ensures.value, t.ensures.out_after)))).1
