-- Uncompressed pixels, as the code reads them.
use Rattle.std.specs.Prelude.{ℕ, ◌≡◌}
use Rattle.cbf_pixels.specs.Uncompressed.{octets_per}
use Rattle.cbf_pixels.specs.declared.ElementType.{ElementType}

-- the octets of an element of some type
pub record Width (width : ℕ) : Type 0 where
  pub type : ElementType
  pub is : width ≡ octets_per type
