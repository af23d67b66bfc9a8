-- The new file is measured, and written where it has room.
use Rattle.std.proofs.Common.{ℕ, List, length, arith, ap, ◌∙◌}
use Rattle.std.proofs.lemmas.List.Edits.{sets}
use Rattle.cbf_rewrite.specs.Rewrite.{rewritten}
use Rattle.cbf_rewrite.proofs.RewriteLaws.{file-refused, file-done}
use Rattle.cbf_rewrite.proofs.rewrite.rewrite_file.Goals as goal

pub returns-then-room-length : goal.returns-then-room-length
returns-then-room-length c =
    let a = c.args in
    let e = c.spans_from-length.ensures in
    let r = file-refused (rewritten a.limit a.file.now a.chosen.now a.frames.now) a.out.now e.value
    (omega (arith, c.if-room-length.true, ap length e.out_after)) in
    record { answer = rw c.at.ensures r.0; output = e.out_after ∙ r.1 }

pub returns : goal.returns
returns c =
    let a = c.args in
    let new = rewritten a.limit a.file.now a.chosen.now a.frames.now in
    let e = c.spans_from-length.ensures in
    let r = file-done new a.out.now e.value (omega (arith, c.if-room-length.false, ap length e.out_after)) in
    record { answer = r.0; output = c.spans_from.ensures.out_after ∙ ap (λ (o : List ℕ). sets o 0 new) e.out_after ∙ r.1 }
