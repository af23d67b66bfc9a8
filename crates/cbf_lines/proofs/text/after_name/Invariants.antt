use Rattle.cbf_format.specs.Headers.{name_byte}
use Rattle.cbf_lines.specs.Text.{Run}
use Rattle.cbf_lines.proofs.text.after_name.Given as goal

abbrev pub invariant-loop-i : goal.invariant-loop-i
invariant-loop-i l = Run name_byte l.file l.fn.from l.i l.i
