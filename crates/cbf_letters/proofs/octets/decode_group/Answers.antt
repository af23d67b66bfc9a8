-- The four numbers are those of the next letters, and zeros where the text ends.
use Rattle.cbf_letters.proofs.OctetsLaws.{decodes-group}
use Rattle.cbf_letters.proofs.octets.decode_group.Goals as goal

pub returns : goal.returns
returns c =
    let p = c.requires in
    decodes-group p.0 p.1 p.3 c.next_letter-a.ensures c.next_letter-b.ensures c.next_letter-c.ensures c.next_letter-d.ensures p.4 c.put_group.ensures
