use Rattle.std.proofs.Common.{arith}
use Rattle.cbf_values.proofs.ValueLaws.{first_two, first_return, first_feed, rest_two, rest_one}
use Rattle.cbf_values.proofs.value.first.Goals as goal

pub returns-in-13-clause-step : goal.returns-in-13-clause-step
returns-in-13-clause-step c = grind (arith, first_two, first_return, first_feed)

pub returns-in-13-clause-rest : goal.returns-in-13-clause-rest
returns-in-13-clause-rest c = grind (arith, rest_two, rest_one)
