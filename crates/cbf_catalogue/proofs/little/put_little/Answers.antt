use native.Mathlib.Omega.{arith}
use Rattle.cbf_catalogue.proofs.EntryLaws.{stored-none, stored_more, stored-all}
use Rattle.cbf_catalogue.proofs.little.put_little.Goals as goal

pub loop-i-init : goal.loop-i-init
loop-i-init c = stored-none c.args.out.now c.args.at c.args.k c.args.n

pub loop-i-preserved : goal.loop-i-preserved
loop-i-preserved c = stored_more c.loop-i.invariant (omega arith)

pub returns-clause-out_after : goal.returns-clause-out_after
returns-clause-out_after c = stored-all c.loop-i.invariant (omega arith)
