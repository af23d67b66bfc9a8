-- `lines`: reading begins where `begin` says.
use Rattle.cbf_listing.proofs.lines.lines.Goals as goal

pub lines_from-requires : goal.lines_from-requires
lines_from-requires c =
    let says = c.in_ok-first.ensures c.args.limit in
    (says.0, says.2, says.3, rw says.1 at c.requires)
