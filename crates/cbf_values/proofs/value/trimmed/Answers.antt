use Rattle.std.proofs.Common.{refl, arith, ◌-◌, length}
use Rattle.std.proofs.lemmas.Grind.{common_steps}
use Rattle.cbf_values.proofs.ValueLaws.{first_off, last_off, trim_nothing, part_whole, part_between, part_in}
use Rattle.cbf_values.proofs.value.trimmed.Goals as goal

pub loop-rest-init : goal.loop-rest-init
loop-rest-init c = (refl, part_whole c.args.text.now)

pub loop-rest-preserved : goal.loop-rest-preserved
loop-rest-preserved c =
    let rest = c.loop-rest.rest.now in
    let part = part_between rest 1 (length rest - 1) (omega arith) in
    (grind (arith, common_steps, first_off), part_in c.loop-rest.invariant.1 part)

pub loop-rest-2-preserved : goal.loop-rest-2-preserved
loop-rest-2-preserved c =
    let rest = c.loop-rest-2.rest.now in (
      grind (arith, common_steps, last_off),
      λ h. grind (arith, common_steps),
      part_in c.loop-rest-2.invariant.2 (part_between rest 0 (length rest - 1) (omega arith)),
    )

pub returns-then-rest-lt1-2-clause-value : goal.returns-then-rest-lt1-2-clause-value
returns-then-rest-lt1-2-clause-value c = grind (arith, trim_nothing)
