use Rattle.std.proofs.Common.{arith, tests}
use Rattle.cbf_values.proofs.ContentTypeLaws.{begun_start, begun_next, part_ends, part_open, part_last}
use Rattle.cbf_values.proofs.content_type.first_part.Goals as goal

pub loop-i-init : goal.loop-i-init
loop-i-init c = begun_start

pub returns-in-59-clause-parts : goal.returns-in-59-clause-parts
returns-in-59-clause-parts c =
    part_ends c.args.text.now c.loop-i.i c.loop-i.quoted c.loop-i-test.true c.loop-i.invariant c.if-not-quoted.true c.in-59.is

pub loop-i-preserved : goal.loop-i-preserved
loop-i-preserved c =
    begun_next c.args.text.now c.loop-i.i c.loop-i.quoted c.loop-i-test.true c.loop-i.invariant c.match-b.quoted
    (grind (arith, tests)) (λ e. grind arith)

pub returns-then-quoted-clause-parts : goal.returns-then-quoted-clause-parts
returns-then-quoted-clause-parts c =
    part_open c.args.text.now c.loop-i.i c.loop-i.quoted c.loop-i-test.false c.loop-i.invariant c.if-quoted.true

pub returns-clause-parts : goal.returns-clause-parts
returns-clause-parts c =
    part_last c.args.text.now c.loop-i.i c.loop-i.quoted c.loop-i-test.false c.loop-i.invariant c.if-quoted.false
