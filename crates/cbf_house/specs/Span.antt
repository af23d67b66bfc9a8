-- A packed frame: for the contracts of the functions that write a span.
use Rattle.std.specs.Prelude.{◌≡◌, List, ℕ, length, ℤ}
use Rattle.cbf_pixels.specs.Pixels.{pack_byte_offset}
use Rattle.cbf_pack.specs.Write.{AllSmall}

-- the packed frame has size octets
pub record Packed (frame : List ℤ) (size : ℕ) : Type 0 where
  pub small : AllSmall frame
  pub counted : size ≡ length (pack_byte_offset frame)
