-- What a pass over the pixels of a text says: for the contracts of the private functions.
use Rattle.std.specs.Prelude.{◌≡◌, Bool, true, false, List, ◌++◌, ℕ, drop, ℤ, Option, Some}
use Rattle.cbf_pixels.specs.PixelCalls.{pixels_of}
use Rattle.cbf_validate.specs.Validate.{ValidPart}
use Rattle.cbf_unpack.specs.Fill.{FilledPart}
use Rattle.cbf_pixels.specs.declared.ElementType.{ElementType}
use Rattle.cbf_octets.specs.declared.Part.{Part}

-- a part that was validated, or written to out
pub record PartSays (writing : Bool) (t : ElementType) (os : List ℕ) (ended : Bool) (z : ℤ) (i count k : ℕ) (out out' : List ℤ) (r : Option Part) : Type 0 where
  pub valid : writing ≡ false → ValidPart t os ended z i count r × (out' ≡ out)
  pub filled : writing ≡ true → (p : Part) × (r ≡ Some p) × FilledPart os ended z i count k out out' p

-- what is in an output after the pixels were validated, or written to it
abbrev pub pass_output : Bool → Option (List ℤ) → ℕ → List ℤ → List ℤ
pass_output false pixels count old = old
pass_output true pixels count old = pixels_of pixels ++ drop count old
