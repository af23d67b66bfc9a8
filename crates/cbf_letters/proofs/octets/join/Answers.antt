-- The octets of j groups are written.
use mathlib.Core.Path.{refl}
use native.Mathlib.Omega.{arith}
use Rattle.cbf_letters.specs.Letters.{sixes_octets}
use Rattle.cbf_letters.proofs.OctetsLaws.{join-turn}
use Rattle.cbf_letters.proofs.octets.join.Goals as goal

pub loop-j-init : goal.loop-j-init
unfolding sixes_octets
loop-j-init c = refl

pub loop-j-preserved : goal.loop-j-preserved
loop-j-preserved c =
    let a = c.args in
    join-turn a.numbers.now a.out.now a.at c.loop-j.j (omega arith) c.loop-j.invariant c.put_group.ensures
