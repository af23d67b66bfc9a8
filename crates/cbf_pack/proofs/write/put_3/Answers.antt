use Rattle.std.proofs.Common.{ℕ, ◌+◌, List, ap, refl, ◌∙◌}
use lib.Seq.{sets}
use Rattle.cbf_pixels.specs.Octets.{octets}
use Rattle.cbf_answers.proofs.Stores.{sets_then}
use Rattle.cbf_pack.proofs.write.put_3.Goals as goal

pub returns : goal.returns
unfolding octets
returns c =
    let a = c.args in
    c.put-2.ensures
    ∙ ap (λ (l : List ℕ). sets l (a.at + 1) (octets 2 a.n)) c.put.ensures
    ∙ sets_then a.out.now a.at 1 (octets 1 128) (octets 2 a.n) refl
