-- The second store writes over the last octet of the first.
use Rattle.std.proofs.Common.{ℕ, ◌+◌, ◌/◌, ◌%◌, List, [], ◌∷◌, ap, refl, ◌∙◌}
use lib.Seq.{sets}
use Rattle.cbf_pixels.specs.Octets.{octets}
use Rattle.cbf_pack.proofs.WriteLaws.{sets_over}
use Rattle.cbf_pack.proofs.write.put_7.Goals as goal

pub returns : goal.returns
unfolding octets
returns c =
    let a = c.args in
    c.put-2.ensures
    ∙ ap (λ (l : List ℕ). sets l (a.at + 3) (octets 4 a.n)) c.put.ensures
    ∙ sets_over a.out.now a.at 3 0 (a.n % 256) (128 ∷ 0 ∷ 128 ∷ []) (octets 3 (a.n / 256)) refl
