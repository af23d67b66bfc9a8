use mathlib.Core.Path.{◌≡◌, sym, ◌∙◌}
use native.Mathlib.Omega.{arith}
use lib.ListN.{replicate}
use Rattle.cbf_format.specs.Catalogue.{zeros}
use Rattle.cbf_catalogue.proofs.EntryLaws.{length-zeros, zeros-same}
use Rattle.cbf_write.proofs.PutLaws.{put-mid}
use Rattle.cbf_catalogue.proofs.little.put_zeros.Goals as goal

pub returns-clause-out_after : goal.returns-clause-out_after
returns-clause-out_after c =
    let n = c.args.count in
    put-mid c.args.out.now (zeros n) _ c.args.at _ (omega (arith, length-zeros n)) (omega (arith, length-zeros n))
    (c.fill.ensures.after (λ y e. e) ∙ zeros-same (omega arith))
