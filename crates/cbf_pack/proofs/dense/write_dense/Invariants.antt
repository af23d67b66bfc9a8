-- `write_dense`: the first j pixels are written, and at most seven octets behind them.
use Rattle.std.proofs.Common.{◌+◌}
use Rattle.cbf_pack.proofs.DenseLaws.{Along}
use Rattle.cbf_pack.proofs.dense.write_dense.Given as goal

abbrev pub invariant-loop-j : goal.invariant-loop-j
invariant-loop-j l = Along l.pixels 0 (l.n + 7) l.last l.initial.out l.at l.j l.out l.before l.next 7
