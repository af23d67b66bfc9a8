use Rattle.std.proofs.Common.{ℕ, ◌+◌, get_or, bit_and, bit_or}
use Rattle.cbf_sums.proofs.MarksLaws.{or-none}
use Rattle.cbf_sums.proofs.mixed.apart.Goals as goal

pub loop-j-preserved : goal.loop-j-preserved
loop-j-preserved c =
    let ms = c.args.marks.now in
    or-none (λ (j : ℕ). bit_and (get_or ms (16 + j) 0) (bit_or (get_or ms (15 + j) 0) (get_or ms (14 + j) 0))) c.loop-j.j c.loop-j.all c.loop-j.invariant
