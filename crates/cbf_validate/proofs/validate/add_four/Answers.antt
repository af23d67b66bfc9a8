use Rattle.cbf_validate.proofs.ValidateLaws.{adds-adds}
use Rattle.cbf_validate.proofs.validate.add_four.Goals as goal

pub returns : goal.returns
returns c =
    let os = c.args.octets.now in
    let s = c.args.s in
    let p = c.add_one-a.result in
    let q = c.add_one-b.result in
    let r = c.add_one-c.result in
    let t = c.add_one.result in
    adds-adds os 3 1 s.to.biased s.all s.to.next r.to.biased r.all r.to.next t.to.biased t.all t.to.next
    (adds-adds os 2 1 s.to.biased s.all s.to.next q.to.biased q.all q.to.next r.to.biased r.all r.to.next
    (adds-adds os 1 1 s.to.biased s.all s.to.next p.to.biased p.all p.to.next q.to.biased q.all q.to.next c.add_one-a.ensures c.add_one-b.ensures)
    c.add_one-c.ensures)
    c.add_one.ensures
