use Rattle.std.proofs.Common.{◌∙◌, arith}
use mir.Syntax.{w64}
use mir.Facts.{to_z-of_z}
use Rattle.cbf_octets.proofs.DifferenceLaws.{far-up, far-out, far-down, far-fits}
use Rattle.cbf_octets.proofs.difference.far.Goals as goal

pub returns-then-n-le8589934592 : goal.returns-then-n-le8589934592
returns-then-n-le8589934592 c = far-up c.args.n c.if-n-le8589934592.true

pub returns-then-n-lt18446744065119617024 : goal.returns-then-n-lt18446744065119617024
returns-then-n-lt18446744065119617024 c = far-out c.args.n (omega arith) (omega arith)

pub returns-else-n-lt18446744065119617024 : goal.returns-else-n-lt18446744065119617024
returns-else-n-lt18446744065119617024 c =
    to_z-of_z {w = w64} (record { sfits = far-fits c.args.n (omega arith) (omega arith) }) ∙ far-down c.args.n (omega arith) (omega arith)
