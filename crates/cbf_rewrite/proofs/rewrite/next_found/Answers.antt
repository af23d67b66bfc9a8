use Rattle.std.proofs.Common.{◌≡◌, Some, refl}
use Rattle.cbf_rewrite.proofs.RewriteLaws.{next-found, next-is_some}
use Rattle.cbf_rewrite.proofs.rewrite.next_found.Goals as goal

pub unwrap-requires : goal.unwrap-requires
unwrap-requires c = rw (next-is_some c.requires c.next_section.result c.next_section.ensures).1 refl

pub unwrap-next-requires : goal.unwrap-next-requires
unwrap-next-requires c =
    let n = next-is_some c.requires c.next_section.result c.next_section.ensures in
    let e : c.unwrap.result ≡ Some n.0 = cc (n.1, c.unwrap.ensures) in
    rw e refl

pub returns : goal.returns
returns c = next-found c.requires (rw (c.unwrap.ensures, c.unwrap-next.ensures) at c.next_section.ensures)
