use Rattle.std.proofs.Common.{arith}
use Rattle.cbf_house.proofs.HeadLaws.{line-length}
use Rattle.cbf_house.proofs.head.Piece.length.Goals as goal

pub returns-in-Line : goal.returns-in-Line
returns-in-Line c = rw c.in-Line.is (omega (arith, line-length c.in-Line.name.now c.in-Line.n))
