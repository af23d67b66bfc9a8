use Rattle.std.proofs.Common.{sym}
use Rattle.cbf_house.specs.Head.{texts_of}
use Rattle.cbf_house.proofs.HeadLaws.{head-pieces}
use Rattle.cbf_house.proofs.head.head.Goals as goal

pub returns-clause-text : goal.returns-clause-text
unfolding texts_of
returns-clause-text c =
    rw (c.optional_line.ensures, c.words.ensures, c.optional_line-2.ensures, c.optional_line-3.ensures, c.optional_line-4.ensures)
    (sym (head-pieces c.args.d c.args.size))
