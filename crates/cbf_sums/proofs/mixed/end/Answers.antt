use Rattle.std.proofs.Common.{bit_or, bit_xor}
use lib.Bits.{and_le_l}
use Rattle.cbf_sums.proofs.MarksLaws.{end_is}
use Rattle.cbf_sums.proofs.mixed.end.Goals as goal

pub returns : goal.returns
returns c =
    let a = c.args in
    (end_is a.b a.c c.requires.0 c.requires.1, and_le_l 1 (bit_xor 255 (bit_or a.b a.c)))
