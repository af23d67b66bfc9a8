-- What it passes over has no number.
use mathlib.Core.Path.{sym, ◌∙◌}
use native.Mathlib.Omega.{arith}
use Rattle.cbf_letters.proofs.LettersLaws.{sixes-other}
use Rattle.cbf_letters.proofs.letters.next_place.Goals as goal

pub loop-i-preserved : goal.loop-i-preserved
loop-i-preserved c =
    c.loop-i.invariant ∙ sixes-other c.args.file.now c.loop-i.i c.args.to (omega arith) (omega arith) (sym c.letter.ensures ∙ c.if-letter.false)
