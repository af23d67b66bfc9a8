use Rattle.cbf_format.specs.Text.{textual}
use Rattle.cbf_lines.specs.Text.{Run}
use Rattle.cbf_lines.proofs.text.after_text.Given as goal

abbrev pub invariant-loop-i : goal.invariant-loop-i
invariant-loop-i l = Run textual l.file l.fn.from l.i l.i
