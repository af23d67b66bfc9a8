use Rattle.std.proofs.Common.{arith}
use Rattle.cbf_octets.proofs.RestLaws.{whole_here}
use Rattle.cbf_validate.proofs.ValidateLaws.{took-small, took-sum, held_small, adds_one}
use Rattle.cbf_validate.proofs.validate.add_one.Goals as goal

pub read_difference-d-requires : goal.read_difference-d-requires
read_difference-d-requires c = whole_here c.args.octets.now c.args.s.to.next c.requires.0

pub sum-biased-requires : goal.sum-biased-requires
sum-biased-requires c =
    let S = c.requires.1 in
    (omega (arith, S.0), omega (arith, S.1), held_small c.read_difference-d.result.value (took-small c.read_difference-d.ensures))

pub returns : goal.returns
returns c =
    let a = c.args in
    let d = c.read_difference-d in
    adds_one a.octets.now a.s.to.biased a.s.all a.s.to.next c.sum-biased.result d.result.next d.result.value c.requires.1 d.ensures
    (took-sum a.s.to.biased c.sum-biased.result d.ensures c.sum-biased.ensures)
