-- `put_label`: zeros up to the label's width, and the name over them.
use mathlib.Core.Path.{ap, ◌∙◌}
use lib.Seq.{sets}
use mathlib.Core.List.{List}
use Prim.Native.Nat.{ℕ}
use Rattle.cbf_catalogue.proofs.EntryLaws.{label-over}
use Rattle.cbf_catalogue.proofs.entry.put_label.Goals as goal

pub returns-clause-out_after : goal.returns-clause-out_after
returns-clause-out_after c =
    c.put_text.ensures.out_after
    ∙ ap (λ (l : List ℕ). sets l c.args.at c.args.name.now) c.put_zeros-end.ensures.out_after
    ∙ label-over c.args.out.now c.args.name.now c.args.at c.requires.0
