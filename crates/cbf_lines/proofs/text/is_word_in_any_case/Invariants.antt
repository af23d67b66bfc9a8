use Rattle.cbf_format.specs.Text.{lowers}
use Rattle.cbf_lines.proofs.TextLaws.{Compared}
use Rattle.cbf_lines.proofs.text.is_word_in_any_case.Given as goal

abbrev pub invariant-loop-i : goal.invariant-loop-i
invariant-loop-i l = Compared l.differs l.word (lowers l.text) l.i
