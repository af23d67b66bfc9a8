-- `entries`: reading begins where `begin` says.
use Rattle.cbf_catalogue.proofs.entries.entries.Goals as goal

pub entries_from-requires : goal.entries_from-requires
entries_from-requires c =
    let says = c.in_ok-first.ensures c.args.limit in
    (says.0, says.2, says.3, rw says.1 at c.requires)
