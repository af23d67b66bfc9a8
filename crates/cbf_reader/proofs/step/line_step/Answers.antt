-- The cursor after the line: a line outside fields may name the data block.
use Rattle.std.proofs.Common.{ℕ, ◌+◌, ◌∙◌, refl, sym, ap, List}
use Rattle.cbf_format.proofs.Slices.{slice-part}
use Rattle.cbf_reader.specs.Step.{field_at}
use Rattle.cbf_reader.proofs.StepLaws.{BlockAfter, block-outside, block-kept, after_line_lem}
use Rattle.cbf_format.specs.Files as F
use Rattle.cbf_reader.proofs.step.line_step.Goals.{in-Outside, in_default}
use Rattle.cbf_reader.proofs.step.line_step.Goals as goal

pub returns : goal.returns
returns c st n e k =
    let a = c.args in
    let p = c.requires in
    let file = a.file.now in
    let b : BlockAfter file a.c.at a.line.to a.c.field a.c.block c.match-c.block
    = elim c.match-c.branch [
      | in-Outside w ↦ rw w.block-is
          (block-outside file a.c.at a.line.to a.c.block a.c.field w.in-Outside.is w.next_block-block.result w.next_block-block.ensures)
      | in_default w ↦ rw w.block-is
          (block-kept file a.c.at a.line.to a.c.block a.c.field w.in_default.not-Outside p.2 p.3)
    ] in
    let t = slice-part file a.c.at a.line.to p.0 p.1 in (
      after_line_lem file a.c a.line.to a.line.next c.match-c.block c.next_field.result b
          (λ f m i j. c.next_field.ensures f m i j ∙ ap (λ (l : List ℕ). field_at (a.c.at + m) (F.next_field f l m)) (sym t)) st n e k,
      refl,
      b.low,
      b.high,
    )
