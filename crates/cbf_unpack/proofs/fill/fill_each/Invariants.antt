use Rattle.cbf_unpack.specs.Fill.{Filled}
use Rattle.cbf_unpack.proofs.fill.fill_each.Given as goal

-- j of the n pixels are written
abbrev pub invariant-loop-j : goal.invariant-loop-j
invariant-loop-j l = Filled l.octets l.fn.s.pixel l.fn.s.next l.j l.last.pixel l.last.next l.k l.initial.out l.out
