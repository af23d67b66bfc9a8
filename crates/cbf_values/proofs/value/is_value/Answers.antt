use Rattle.std.proofs.Common.{sym, ◌∙◌}
use Rattle.cbf_values.proofs.ValueLaws.{word_over, word_ends}
use Rattle.cbf_values.proofs.value.is_value.Goals as goal

pub returns-in_default : goal.returns-in_default
returns-in_default c = sym (word_over c.args.word.now c.loop-b.b-index _ c.loop-b-test.true c.in_default.ensures.step) ∙ c.loop-b.invariant

pub returns : goal.returns
returns c = c.is_empty.ensures ∙ sym (word_ends c.args.word.now c.loop-b.b-index c.loop-b.rest.now c.loop-b-test.false) ∙ c.loop-b.invariant
