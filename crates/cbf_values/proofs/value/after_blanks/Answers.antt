use Rattle.std.proofs.Common.{refl, arith}
use Rattle.std.proofs.lemmas.Grind.{common_steps}
use Rattle.cbf_values.proofs.ValueLaws.{rest_whole, rest_after, rest_in}
use Rattle.cbf_values.proofs.value.after_blanks.Goals as goal

pub loop-text-init : goal.loop-text-init
loop-text-init c = (refl, rest_whole c.args.text.now)

pub loop-text-preserved : goal.loop-text-preserved
loop-text-preserved c =
    let text = c.loop-text.text.now in
    (grind (arith, common_steps), rest_in 0 (omega arith) c.loop-text.invariant.1 (rest_after text 1 (omega arith)))
