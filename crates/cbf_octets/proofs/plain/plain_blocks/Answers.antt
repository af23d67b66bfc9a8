use Rattle.std.proofs.Common.{rules, arith}
use Rattle.cbf_octets.proofs.PlainLaws.{run_more}
use Rattle.cbf_octets.proofs.plain.plain_blocks.Goals as goal

pub loop-n-preserved : goal.loop-n-preserved
loop-n-preserved c =
    let l = c.loop-n in
    run_more c.args.octets.now c.args.i c.args.limit l.n c.requires.1 l.invariant (omega arith) (omega (arith, l.invariant.inside)) (c.escapes.ensures (search rules))
