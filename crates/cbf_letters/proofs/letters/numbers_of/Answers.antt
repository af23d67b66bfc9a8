-- The numbers written and those left are all of them.
use mathlib.Core.Path.{sym, ◌∙◌}
use native.Mathlib.Omega.{arith}
use Rattle.cbf_letters.proofs.LettersLaws.{finished-next, finished-all}
use Rattle.cbf_letters.proofs.letters.numbers_of.Goals as goal

pub loop-j-preserved : goal.loop-j-preserved
loop-j-preserved c =
    let l = c.loop-j in
    finished-next c.args.text.now l.numbers l.j c.number_of.result (omega arith) c.number_of.ensures ∙ l.invariant

pub returns : goal.returns
returns c =
    let l = c.loop-j in
    sym (finished-all c.args.text.now l.numbers l.j (omega arith)) ∙ l.invariant
