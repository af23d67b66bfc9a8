use Rattle.std.proofs.Common.{◌+◌, ◌-◌, arith}
use Rattle.cbf_measure.proofs.WindowLaws.{run-block}
use Rattle.cbf_measure.proofs.window.window_run.Goals as goal

pub loop-n-preserved : goal.loop-n-preserved
loop-n-preserved c =
    let n = c.loop-n.n in
    run-block c.args.pixels.now n (n + 32 - n) c.loop-n.invariant (omega arith) (omega arith) (c.same_window.ensures c.if-same_window.true)
