use Rattle.std.proofs.Common.{arith}
use Rattle.cbf_sums.proofs.MarksLaws.{chosen_is}
use Rattle.cbf_sums.proofs.mixed.chosen.Goals as goal

pub returns : goal.returns
returns c =
    let a = c.args in
    chosen_is a.a a.b a.c a.x a.y c.requires.0 c.requires.1 c.requires.2 (omega arith) (omega arith)
