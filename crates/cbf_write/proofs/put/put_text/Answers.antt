use Rattle.std.proofs.Common.{arith}
use Rattle.cbf_write.proofs.PutLaws.{put-mid}
use Rattle.cbf_write.proofs.put.put_text.Goals as goal

pub returns-clause-out_after : goal.returns-clause-out_after
returns-clause-out_after c =
    put-mid c.args.out.now c.args.text.now _ c.args.at _ c.requires (omega arith) c.copy_from_slice.ensures.after
