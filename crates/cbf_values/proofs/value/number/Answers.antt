use Rattle.std.proofs.Common.{arith}
use Rattle.std.proofs.lemmas.Grind.{common_steps}
use Rattle.cbf_values.proofs.ValueLaws.{no_number_short, no_number_long, no_number_over, number_whole}
use Rattle.cbf_values.proofs.value.number.Goals as goal

pub returns-then-not-matches : goal.returns-then-not-matches
returns-then-not-matches c = grind (arith, no_number_short, no_number_long)

pub returns-then-not-is_ascii_digit : goal.returns-then-not-is_ascii_digit
returns-then-not-is_ascii_digit c = grind (arith, no_number_over)

pub returns : goal.returns
returns c = grind (arith, common_steps, number_whole)
