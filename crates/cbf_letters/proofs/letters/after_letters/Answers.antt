-- Block after block is of letters.
use Prim.Native.Nat.{◌+◌}
use native.Mathlib.Omega.{arith}
use Rattle.cbf_letters.proofs.LettersLaws.{each-then, block-letters}
use Rattle.cbf_letters.proofs.letters.after_letters.Goals as goal

pub loop-i-preserved : goal.loop-i-preserved
loop-i-preserved c =
    let l = c.loop-i in
    let only = block-letters c.args.file.now l.i (l.i + c.args.n) (omega arith) (omega arith) (c.all_letters.ensures c.if-not-all_letters.false) in
    (omega arith, omega arith, each-then l.invariant.2 only, omega arith)
