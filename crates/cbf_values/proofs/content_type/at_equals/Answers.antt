use Rattle.std.proofs.Common.{rules}
use Rattle.cbf_values.proofs.ContentTypeLaws.{before_at, after_at, before_none, after_none}
use Rattle.cbf_values.proofs.content_type.at_equals.Goals as goal

pub returns-in-Some-clause-before : goal.returns-in-Some-clause-before
returns-in-Some-clause-before c = before_at c.args.part.now c.in-Some.i (search rules) (search rules) (search rules)

pub returns-in-Some-clause-after : goal.returns-in-Some-clause-after
returns-in-Some-clause-after c = after_at c.args.part.now c.in-Some.i (search rules) (search rules) (search rules)

pub returns-in-None-clause-before : goal.returns-in-None-clause-before
returns-in-None-clause-before c = before_none c.args.part.now (search rules)

pub returns-in-None-clause-after : goal.returns-in-None-clause-after
returns-in-None-clause-after c = after_none c.args.part.now (search rules)
