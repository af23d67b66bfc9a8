-- `kinds`: three numbers below 256 are the octets of the number they make.
use native.Mathlib.Omega.{arith}
use mathlib.Core.Path.{◌∙◌}
use Rattle.cbf_catalogue.proofs.EntryLaws.{octets-three}
use Rattle.cbf_catalogue.proofs.entry.kinds.Goals as goal

pub returns : goal.returns
returns c =
    rw (c.from-low.ensures, c.from-middle.ensures, c.from-high.ensures, ← c.from.ensures, ← c.from-2.ensures, ← c.from-3.ensures)
    (octets-three c.from.result c.from-2.result c.from-3.result (omega arith) (omega arith) (omega arith))
