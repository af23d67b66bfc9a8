use Rattle.std.proofs.Common.{ℕ, ◌+◌, List, ◌++◌, ap, refl, ◌∙◌}
use lib.Seq.{sets}
use Rattle.cbf_pixels.specs.Octets.{octets}
use Rattle.cbf_answers.proofs.Stores.{sets_then}
use Rattle.cbf_pack.proofs.write.put_15.Goals as goal

pub returns : goal.returns
unfolding octets
returns c =
    let a = c.args in
    c.put.ensures
    ∙ ap (λ (l : List ℕ). sets l (a.at + 7) (octets 8 a.n)) c.put_7.ensures
    ∙ sets_then a.out.now a.at 7 (octets 1 128 ++ octets 2 32768 ++ octets 4 2147483648) (octets 8 a.n) refl
