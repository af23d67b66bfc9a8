-- What is in the output after a part of a new file. Assumes nothing.
use mathlib.Core.Path.{◌≡◌, refl, ◌∙◌}
use mathlib.Core.Bool.{Bool, true, false}
use mathlib.Core.List.{List, ◌++◌}
use Prim.Native.Nat.{ℕ}
use native.Mathlib.Omega.{arith}
use lib.ListN.{length}
use Rattle.cbf_write.proofs.PutLaws.{put_if, put-if-more}
use Rattle.cbf_rewrite.specs.Parts.{part_in}

pub part_in_lem : (writing : Bool) (old : List ℕ) (at : ℕ) (part : List ℕ)
    → put_if writing old at part ≡ part_in writing old at part
part_in_lem true old at part = refl
part_in_lem false old at part = refl

-- a part more
pub part-more : (writing : Bool) (old done part : List ℕ) {at : ℕ} {out new : List ℕ} → out ≡ put_if writing old 0 done
    → at ≡ length done → new ≡ part_in writing out at part → new ≡ put_if writing old 0 (done ++ part)
part-more true old done part h e q = put-if-more true old 0 done part refl h (omega (arith, e)) q
part-more false old done part h e q = q ∙ h
