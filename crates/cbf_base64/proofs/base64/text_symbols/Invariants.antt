-- What is added, and what is left of the text, make the whole.
use Rattle.std.proofs.Common.{ℕ, ◌+◌, ◌≤◌, ◌≡◌}
use Rattle.std.proofs.Math.Seq.{slice}
use Rattle.cbf_lines.specs.Text.{Run}
use Rattle.cbf_base64.specs.Base64.{bytes_from, symbolic}
use Rattle.cbf_base64.proofs.base64.text_symbols.Given as goal

abbrev pub invariant-loop-i : goal.invariant-loop-i
invariant-loop-i l = record {
  few : l.groups.letters + l.groups.pads ≤ l.i;
  run : Run symbolic l.file l.fn.from l.i l.i;
  whole : (j : ℕ) → l.i ≤ j → j ≤ l.fn.to
      → bytes_from l.groups (slice l.i j l.file) ≡ bytes_from l.fn.g (slice l.fn.from j l.file);
}
